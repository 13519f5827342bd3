use Rattle.std.proofs.Common.{length}
use Rattle.dm_schema.proofs.named.+place_by_name.Given as goal

abbrev pub decreases-place_by_name : goal.decreases-place_by_name
decreases-place_by_name g l = length l.list.now
