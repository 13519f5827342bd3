use Rattle.std.proofs.Common.{◌≡◌, ◌++◌, length, None}
use Rattle.dm_ddl.specs.Bounds.{items_of, first_excess}
use Rattle.dm_ddl.specs.Creating.{columns_in}
use Rattle.dm_ddl.proofs.creating.columns_in.Given as goal

abbrev pub invariant-loop-item : goal.invariant-loop-item
invariant-loop-item l =
    (l.columns.items ++ columns_in l.text l.primary (items_of l.rest) ≡ columns_in l.text l.primary (items_of l.pieces)) × (first_excess l.text (items_of l.rest) ≡ None)

abbrev pub decreases-loop-item : goal.decreases-loop-item
decreases-loop-item l = length l.rest
