use Rattle.std.proofs.Common.{length}
use Rattle.dm_decode.proofs.rows.+differing.Given as goal

abbrev pub decreases-differing : goal.decreases-differing
decreases-differing l = length l.columns.now
