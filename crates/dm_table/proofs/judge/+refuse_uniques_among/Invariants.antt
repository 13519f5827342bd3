use Rattle.std.proofs.Common.{length}
use Rattle.dm_table.proofs.judge.+refuse_uniques_among.Given as goal

abbrev pub decreases-refuse_uniques_among : goal.decreases-refuse_uniques_among
decreases-refuse_uniques_among l = length l.keys.now
