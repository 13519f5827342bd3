use Rattle.std.proofs.Common.{length}
use Rattle.dm_table.proofs.shapes.+names_repeat.Given as goal

abbrev pub decreases-names_repeat : goal.decreases-names_repeat
decreases-names_repeat l = length l.names.now
