use Rattle.std.proofs.Common.{arith}
use Rattle.dm_encode.proofs.Sizes.{query_small}
use Rattle.dm_encode.proofs.tests.query_bytes.Goals as goal

pub write_query-requires-clause-size : goal.write_query-requires-clause-size
write_query-requires-clause-size c = query_small c.args.db.now c.args.statement.now c.requires.db (omega (arith, c.requires.statement))
