use Rattle.std.proofs.Common.{◌≡◌, drop}
use Rattle.dm_lockstate.specs.Points.{offer_of}
use Rattle.dm_lockstate.proofs.Refusals.{first_at}
use Rattle.dm_lockstate.proofs.judging.first_refused.Given as goal

abbrev pub invariant-loop-column : goal.invariant-loop-column
invariant-loop-column l = first_at (offer_of l.offered) l.point (drop l.column-index l.columns) ≡ first_at (offer_of l.offered) l.point l.columns
