use Rattle.std.proofs.Common.{◌≡◌, ◌+◌, ◌-◌, ◌^◌, length, take, min}
use Rattle.std.specs.List.{flat_map}
use Rattle.dm_files.specs.Files.{table_files}
use Rattle.dm_files.proofs.counts.tables_count.Given as goal

abbrev pub invariant-loop-table : goal.invariant-loop-table
invariant-loop-table l = l.count ≡ min (l.before + length (flat_map table_files (take l.table-index l.tables))) (2 ^ 64 - 1)
