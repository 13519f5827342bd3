use Rattle.std.proofs.Common.{length}
use Rattle.dm_task.proofs.sharding.+spot.Given as goal

abbrev pub decreases-spot : goal.decreases-spot
decreases-spot l = length l.names.now
