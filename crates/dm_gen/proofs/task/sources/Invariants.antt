use Rattle.std.proofs.Common.{◌≡◌, map}
use Rattle.std.specs.List.{range_with_len}
use Rattle.dm_gen.specs.Tasks.{source_of}
use Rattle.dm_gen.proofs.task.sources.Given as goal

abbrev pub invariant-loop-source : goal.invariant-loop-source
invariant-loop-source l = l.sources.items ≡ map source_of (range_with_len 0 l.source)
