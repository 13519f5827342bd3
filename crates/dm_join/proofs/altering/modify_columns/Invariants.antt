use Rattle.std.proofs.Common.{◌≡◌, ◌++◌, map, take}
use Rattle.dm_schema.specs.declared.change.Change.TheVariants as change
use Rattle.dm_schema.specs.declared.change.Spot.TheVariants as spot
use Rattle.dm_join.proofs.altering.modify_columns.Given as goal

abbrev pub invariant-loop-column : goal.invariant-loop-column
invariant-loop-column l = l.changes.items ≡ l.fn.changes.items ++ map (λ c. change.Modify c spot.Keep c.nullable) (take l.column-index l.columns)
