use Rattle.std.proofs.Common.{◌≡◌, ◌^◌, ◌-◌, length, take, min}
use Rattle.std.specs.List.{flat_map}
use Rattle.dm_files.specs.Files.{source_files}
use Rattle.dm_track.proofs.building.files_count.Given as goal

abbrev pub invariant-loop-source : goal.invariant-loop-source
invariant-loop-source l = l.count ≡ min (length (flat_map source_files (take l.source-index l.sources))) (2 ^ 64 - 1)
