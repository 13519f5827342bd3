use Rattle.dm_dump.proofs.Columns.{made_formed}
use Rattle.dm_dump.proofs.order.columns_by.Goals as goal

pub returns-clause-formed : goal.returns-clause-formed
returns-clause-formed c = made_formed c.args.columns.now c.loop-name.made.items _ c.args.order.now c.loop-name.invariant c.requires
