use Rattle.std.proofs.Common.{◌≡◌, drop}
use Rattle.dm_target.specs.Fuses.{blow_at}
use Rattle.dm_target.proofs.blow.blow_at.Given as goal

abbrev pub invariant-loop-blow : goal.invariant-loop-blow
invariant-loop-blow l = blow_at (drop l.blow-index l.failing) l.number ≡ blow_at l.failing l.number
