use Rattle.std.proofs.Common.{arith}
use Rattle.dm_table.proofs.Room.{removed_one}
use Rattle.dm_table.proofs.carrying.remove_all.Goals as goal

pub loop-key-preserved : goal.loop-key-preserved
loop-key-preserved c = removed_one c.args.keys.now c.loop-key.key-index c.key-item.result c.loop-key.rows c.remove.new.self _ (omega arith) c.key-item.is c.remove.ensures c.loop-key.invariant
