use Rattle.dm_base.proofs.Numbers.{le_is}
use Rattle.dm_base.proofs.cursor.Cursor.le.Goals as goal

pub returns : goal.returns
returns c = le_is c.args.width c.from.result c.read_uint.result c.in_ok-bytes.bytes.now c.args.self.now c.take.new.self c.from.ensures c.in_ok-bytes.ensures c.read_uint.ensures
