use Rattle.std.proofs.Common.{length}
use Rattle.dm_binlog.proofs.Laws.{chosen_in_order}
use Rattle.dm_binlog.proofs.framing.read_events.Goals as goal

pub returns-clause-in_order : goal.returns-clause-in_order
returns-clause-in_order c =
    chosen_in_order c.args.file.now c.args.start c.in_ok-events.events c.checked.result c.started.result (length c.args.file.now) c.in_ok-events.ensures.in_order c.checked.ensures c.started.ensures
