use Rattle.std.proofs.Common.{◌≡◌, drop, map, fold}
use Rattle.dm_task.specs.Shards.{with_name, names_in_order}
use Rattle.dm_task.proofs.sharding.names_in_order.Given as goal

abbrev pub invariant-loop-shard : goal.invariant-loop-shard
invariant-loop-shard l = fold with_name l.names.items (map (λ shard. shard.target) (drop l.shard-index l.shards)) ≡ names_in_order (map (λ shard. shard.target) l.shards)
