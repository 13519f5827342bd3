use Rattle.std.proofs.Common.{◌≡◌, take, map}
use Rattle.dm_table.specs.Operations.{left_value}
use Rattle.dm_table.specs.Staging.{rows_behind}
use Rattle.dm_table.proofs.left.left_row.Given as goal

abbrev pub invariant-loop-column : goal.invariant-loop-column
invariant-loop-column l = l.values.items ≡ map (left_value l.columns l.op (rows_behind l.rows)) (take l.column-index l.columns)
