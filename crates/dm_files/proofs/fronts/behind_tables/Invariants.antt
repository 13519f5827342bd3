use Rattle.std.proofs.Common.{◌≡◌, drop}
use Rattle.std.specs.List.{flat_map}
use Rattle.dm_files.specs.Files.{table_files}
use Rattle.dm_files.specs.Fronts.{files_behind}
use Rattle.dm_files.proofs.fronts.behind_tables.Given as goal

abbrev pub invariant-loop-table : goal.invariant-loop-table
invariant-loop-table l = files_behind (flat_map table_files (drop l.table-index l.tables)) l.left ≡ files_behind (flat_map table_files l.tables) l.files
