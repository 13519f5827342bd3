use Rattle.std.proofs.Common.{◌≡◌, take}
use Rattle.std.specs.List.{flat_map}
use Rattle.dm_files.specs.Files.{source_files}
use Rattle.dm_files.proofs.names.file_names.Given as goal

abbrev pub invariant-loop-source : goal.invariant-loop-source
invariant-loop-source l = l.names.items ≡ flat_map source_files (take l.source-index l.sources)
