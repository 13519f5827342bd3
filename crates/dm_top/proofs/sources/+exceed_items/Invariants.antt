use Rattle.std.proofs.Common.{length}
use Rattle.dm_top.proofs.sources.+exceed_items.Given as goal

abbrev pub decreases-exceed_items : goal.decreases-exceed_items
decreases-exceed_items l = length l.sources.now
