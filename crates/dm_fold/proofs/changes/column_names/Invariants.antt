use Rattle.std.proofs.Common.{◌≡◌, take}
use Rattle.dm_schema.specs.Names.{column_names}
use Rattle.dm_fold.proofs.changes.column_names.Given as goal

abbrev pub invariant-loop-column : goal.invariant-loop-column
invariant-loop-column l = l.names.items ≡ column_names (take l.column-index l.columns)
