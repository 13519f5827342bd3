use Rattle.std.proofs.Common.{length}
use Rattle.dm_syntax.proofs.words.+terminal_among.Given as goal

abbrev pub decreases-terminal_among : goal.decreases-terminal_among
decreases-terminal_among l = length l.words.now
