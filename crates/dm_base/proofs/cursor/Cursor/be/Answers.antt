use Rattle.dm_base.proofs.Numbers.{be_is}
use Rattle.dm_base.proofs.cursor.Cursor.be.Goals as goal

pub returns : goal.returns
returns c = be_is c.args.width c.from.result c.read_uint.result c.in_ok-bytes.bytes.now c.args.self.now c.take.new.self c.from.ensures c.in_ok-bytes.ensures c.read_uint.ensures
