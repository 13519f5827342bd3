use Rattle.std.proofs.Common.{length}
use Rattle.dm_join.proofs.groups.+greatest.Given as goal

abbrev pub decreases-greatest : goal.decreases-greatest
decreases-greatest l = length l.columns.now
