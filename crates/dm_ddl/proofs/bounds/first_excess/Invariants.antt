use Rattle.std.proofs.Common.{◌≡◌, length}
use Rattle.dm_ddl.specs.Bounds.{items_of, first_excess}
use Rattle.dm_ddl.proofs.bounds.first_excess.Given as goal

abbrev pub invariant-loop-item : goal.invariant-loop-item
invariant-loop-item l = first_excess l.text (items_of l.rest) ≡ first_excess l.text (items_of l.pieces)

abbrev pub decreases-loop-item : goal.decreases-loop-item
decreases-loop-item l = length l.rest
