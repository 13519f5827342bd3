use Rattle.std.proofs.Common.{length}
use Rattle.dm_encode.proofs.maps.+push_all_metadata.Given as goal

abbrev pub decreases-push_all_metadata : goal.decreases-push_all_metadata
decreases-push_all_metadata l = length l.columns.now
