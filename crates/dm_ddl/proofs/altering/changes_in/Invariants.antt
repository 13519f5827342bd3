use Rattle.std.proofs.Common.{◌≡◌, ◌++◌, length, None}
use Rattle.dm_ddl.specs.Bounds.{items_of, first_excess}
use Rattle.dm_ddl.specs.Altering.{changes_in}
use Rattle.dm_ddl.proofs.altering.changes_in.Given as goal

abbrev pub invariant-loop-item : goal.invariant-loop-item
invariant-loop-item l = (l.changes.items ++ changes_in l.text (items_of l.rest) ≡ changes_in l.text (items_of l.pieces)) × (first_excess l.text (items_of l.rest) ≡ None)

abbrev pub decreases-loop-item : goal.decreases-loop-item
decreases-loop-item l = length l.rest
