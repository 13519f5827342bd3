use Rattle.dm_table.proofs.Told.{nothing_indexed}
use Rattle.dm_table.proofs.table.Table.new.Goals as goal

pub invariant_of-result : goal.invariant_of-result
invariant_of-result c = nothing_indexed c.args.schema c.new.result c.new-2.result c.new.ensures c.new-2.ensures
