use Rattle.std.proofs.Common.{◌≡◌, drop}
use Rattle.dm_binlog.specs.Bodies.{column_maps}
use Rattle.dm_binlog.proofs.Columns.{with_columns}
use Rattle.dm_binlog.proofs.table.column_maps.Given as goal

abbrev pub invariant-loop-code : goal.invariant-loop-code
invariant-loop-code l = with_columns l.columns.items (column_maps (drop l.code-index l.codes) l.rest) ≡ column_maps l.codes l.metadata
