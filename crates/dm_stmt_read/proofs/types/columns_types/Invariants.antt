use Rattle.std.proofs.Common.{◌≡◌, true, take}
use Rattle.std.specs.List.{list_all}
use Rattle.dm_stmt_read.specs.Reading.{is_typed_column}
use Rattle.dm_stmt_read.proofs.types.columns_types.Given as goal

abbrev pub invariant-loop-column : goal.invariant-loop-column
invariant-loop-column l = list_all is_typed_column (take l.column-index l.columns) ≡ true
