use Rattle.std.proofs.Common.{length}
use Rattle.dm_table.proofs.cells.+cell.Given as goal

abbrev pub decreases-cell : goal.decreases-cell
decreases-cell l = length l.columns.now
