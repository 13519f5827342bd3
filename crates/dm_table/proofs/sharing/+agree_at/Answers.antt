use Rattle.dm_table.proofs.Agreeing.{differ_first}
use Rattle.dm_table.proofs.sharing.+agree_at.Goals as goal

pub returns-else-are_same : goal.returns-else-are_same
returns-else-are_same t c = differ_first c.args.columns.now c.args.one.now c.args.other.now c.args.names.now c.name-item.result c.are_same.result c.in-len1-up.len_at_least c.name-item.is (rw (c.cell.ensures, c.cell-in-len1-up.ensures) at c.are_same.ensures) c.if-are_same.false
