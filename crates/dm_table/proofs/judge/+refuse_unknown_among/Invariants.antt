use Rattle.std.proofs.Common.{length}
use Rattle.dm_table.proofs.judge.+refuse_unknown_among.Given as goal

abbrev pub decreases-refuse_unknown_among : goal.decreases-refuse_unknown_among
decreases-refuse_unknown_among l = length l.names.now
