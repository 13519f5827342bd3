use Rattle.std.proofs.Common.{length}
use Rattle.dm_top.proofs.sources.+exceed_values.Given as goal

abbrev pub decreases-exceed_values : goal.decreases-exceed_values
decreases-exceed_values l = length l.sources.now
