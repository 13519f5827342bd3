use Rattle.std.proofs.Common.{◌≡◌}
use Rattle.dm_gen.specs.Steps.{walk_at}
use Rattle.dm_gen.specs.Logs.{log_at}
use Rattle.dm_gen.proofs.binlog.binlog.Given as goal

abbrev pub invariant-loop-step : goal.invariant-loop-step
invariant-loop-step l = (l.walker ≡ walk_at l.number l.source l.step) × (l.bytes.items ≡ log_at l.number l.source l.step)
