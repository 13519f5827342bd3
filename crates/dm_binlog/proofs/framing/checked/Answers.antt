use Rattle.std.proofs.Common.{length}
use Rattle.dm_binlog.proofs.Laws.{first_end}
use Rattle.dm_binlog.proofs.framing.checked.Goals as goal

pub format_fault-requires-clause-within : goal.format_fault-requires-clause-within
format_fault-requires-clause-within c =
    first_end c.args.events.list c.as_slice.result.now c.in-Some.first.now 4 (length c.args.file.now) c.requires c.as_slice.ensures c.in-Some.ensures.value
