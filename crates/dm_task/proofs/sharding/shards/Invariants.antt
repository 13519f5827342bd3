use Rattle.std.proofs.Common.{◌≡◌, take}
use Rattle.std.specs.List.{flat_map}
use Rattle.dm_task.specs.Shards.{source_shards}
use Rattle.dm_task.proofs.sharding.shards.Given as goal

abbrev pub invariant-loop-source : goal.invariant-loop-source
invariant-loop-source l = l.shards.items ≡ flat_map (source_shards l.task.rules) (take l.source-index l.source-items)
