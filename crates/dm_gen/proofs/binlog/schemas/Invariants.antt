use Rattle.std.proofs.Common.{◌≡◌, map}
use Rattle.std.specs.List.{range_with_len}
use Rattle.dm_gen.specs.Schemas.{schema_after}
use Rattle.dm_gen.proofs.binlog.schemas.Given as goal

abbrev pub invariant-loop-done : goal.invariant-loop-done
invariant-loop-done l = l.schemas.items ≡ map schema_after (range_with_len 0 l.done)
