use Rattle.std.proofs.Common.{arith}
use Rattle.dm_encode.proofs.Sizes.{map_small}
use Rattle.dm_gen.proofs.binlog.push_map.Goals as goal

pub write_map-requires-clause-size : goal.write_map-requires-clause-size
write_map-requires-clause-size c = map_small _ c.args.own.now.db c.args.own.now.table c.args.schema.now c.requires.names.0 c.requires.names.1 (omega (arith, c.requires.columns))
