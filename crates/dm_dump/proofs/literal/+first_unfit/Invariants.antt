use Rattle.std.proofs.Common.{length}
use Rattle.dm_dump.proofs.literal.+first_unfit.Given as goal

abbrev pub decreases-first_unfit : goal.decreases-first_unfit
decreases-first_unfit l = length l.columns.now
