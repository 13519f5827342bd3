use Rattle.std.proofs.Common.{length}
use Rattle.dm_table.proofs.altering.+refuse_shared_among.Given as goal

abbrev pub decreases-refuse_shared_among : goal.decreases-refuse_shared_among
decreases-refuse_shared_among l = length l.keys.now
