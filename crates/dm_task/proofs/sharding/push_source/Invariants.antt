use Rattle.std.proofs.Common.{◌≡◌, ◌++◌, drop}
use Rattle.std.specs.List.{filter_map}
use Rattle.dm_task.specs.Shards.{shard_of, source_shards}
use Rattle.dm_task.proofs.sharding.push_source.Given as goal

abbrev pub invariant-loop-table : goal.invariant-loop-table
invariant-loop-table l =
    l.shards.items ++ filter_map (shard_of l.rules l.source.name) (drop l.table-index l.table-items) ≡ l.fn.shards.items ++ source_shards l.rules l.source
