use Rattle.std.proofs.Common.{◌≡◌, drop}
use Rattle.std.specs.List.{flat_map}
use Rattle.dm_files.specs.Files.{source_files}
use Rattle.dm_files.specs.Fronts.{files_behind}
use Rattle.dm_files.proofs.fronts.behind_sources.Given as goal

abbrev pub invariant-loop-source : goal.invariant-loop-source
invariant-loop-source l = files_behind (flat_map source_files (drop l.source-index l.sources)) l.left ≡ files_behind (flat_map source_files l.sources) l.files
