use Rattle.std.proofs.Common.{◌≡◌, length, None}
use Rattle.dm_ddl.specs.Bounds.{items_of, first_excess}
use Rattle.std.specs.List.{list_any}
use Rattle.dm_ddl.specs.Columns.{is_unfit}
use Rattle.dm_ddl.proofs.creating.has_unfit.Given as goal

abbrev pub invariant-loop-item : goal.invariant-loop-item
invariant-loop-item l = (list_any (is_unfit l.text l.primary) (items_of l.rest) ≡ list_any (is_unfit l.text l.primary) (items_of l.pieces)) × (first_excess l.text (items_of l.rest) ≡ None)

abbrev pub decreases-loop-item : goal.decreases-loop-item
decreases-loop-item l = length l.rest
