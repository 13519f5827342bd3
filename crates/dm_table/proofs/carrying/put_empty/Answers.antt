use Rattle.std.proofs.Common.{arith}
use Rattle.dm_table.proofs.Room.{filling_next}
use Rattle.dm_table.proofs.carrying.put_empty.Goals as goal

pub loop-key-preserved : goal.loop-key-preserved
loop-key-preserved c =
    filling_next c.args.keys.now c.loop-key.key-index c.key-item.result c.in_ok-copy.field-0 c.new-in-loop-key.result c.args.rows.now c.loop-key.rows c.insert.new.self (omega arith) c.key-item.is c.in_ok-copy.ensures
    c.in_ok-insert.ensures.put c.loop-key.invariant
