use Rattle.std.proofs.Common.{length}
use Rattle.dm_table.proofs.judge.+refuse_unfit_among.Given as goal

abbrev pub decreases-refuse_unfit_among : goal.decreases-refuse_unfit_among
decreases-refuse_unfit_among l = length l.columns.now
