use Rattle.std.proofs.Common.{length}
use Rattle.dm_dump.proofs.order.+stand_so.Given as goal

abbrev pub decreases-stand_so : goal.decreases-stand_so
decreases-stand_so l = length l.columns.now
