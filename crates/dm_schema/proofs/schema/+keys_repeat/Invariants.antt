use Rattle.std.proofs.Common.{length}
use Rattle.dm_schema.proofs.schema.+keys_repeat.Given as goal

abbrev pub decreases-keys_repeat : goal.decreases-keys_repeat
decreases-keys_repeat l = length l.keys.now
