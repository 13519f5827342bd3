use Rattle.std.proofs.Common.{◌≡◌}
use Rattle.std.specs.List.{flat_map, range_with_len}
use Rattle.dm_gen.specs.Generated.{source_files}
use Rattle.dm_gen.proofs.task_files.files.Given as goal

abbrev pub invariant-loop-source : goal.invariant-loop-source
invariant-loop-source l = l.files.items ≡ flat_map (source_files l.number) (range_with_len 0 l.source)
