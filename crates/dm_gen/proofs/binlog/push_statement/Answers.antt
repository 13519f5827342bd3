use Rattle.dm_gen.proofs.Rooms.{statement_small}
use Rattle.dm_gen.proofs.binlog.push_statement.Goals as goal

pub write_query-requires-clause-size : goal.write_query-requires-clause-size
write_query-requires-clause-size c =
    statement_small c.args.done c.args.own.now.db c.args.own.now.table c.as_slice.result.now c.in_ok-text.text.items c.deref.result.now c.requires.names.0 c.requires.names.1 c.as_slice.ensures c.in_ok-text.ensures c.deref.ensures.value
