use Rattle.std.proofs.Common.{◌≡◌, ◌++◌, take}
use Rattle.std.specs.List.{flat_map}
use Rattle.dm_files.specs.Files.{table_files}
use Rattle.dm_files.proofs.names.push_tables.Given as goal

abbrev pub invariant-loop-table : goal.invariant-loop-table
invariant-loop-table l = l.names.items ≡ l.fn.names.items ++ flat_map table_files (take l.table-index l.tables)
