use Rattle.std.proofs.Common.{length}
use Rattle.dm_schema.proofs.schema.+columns_repeat.Given as goal

abbrev pub decreases-columns_repeat : goal.decreases-columns_repeat
decreases-columns_repeat l = length l.columns.now
