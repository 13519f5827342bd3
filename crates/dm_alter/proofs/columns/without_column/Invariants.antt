use Rattle.std.proofs.Common.{◌≡◌, take}
use Rattle.dm_schema.specs.Effect.{without_column}
use Rattle.dm_alter.proofs.columns.without_column.Given as goal

abbrev pub invariant-loop-column : goal.invariant-loop-column
invariant-loop-column l = l.rest.items ≡ without_column (take l.column-index l.columns) l.name
