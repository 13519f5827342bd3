use Rattle.std.proofs.Common.{◌≡◌, ◌++◌, drop}
use Rattle.std.specs.List.{flat_map}
use Rattle.dm_report.specs.Tasks.{shard_line}
use Rattle.dm_report.proofs.tasks.push_shards.Given as goal

abbrev pub invariant-loop-shard : goal.invariant-loop-shard
invariant-loop-shard l = l.text.items ++ flat_map shard_line (drop l.shard-index l.shards) ≡ l.fn.text.items ++ flat_map shard_line l.shards
