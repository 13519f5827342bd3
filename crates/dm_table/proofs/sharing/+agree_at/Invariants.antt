use Rattle.std.proofs.Common.{length}
use Rattle.dm_table.proofs.sharing.+agree_at.Given as goal

abbrev pub decreases-agree_at : goal.decreases-agree_at
decreases-agree_at l = length l.names.now
