use Rattle.std.proofs.Common.{length}
use Rattle.dm_schema.proofs.named.+in_name_order.Given as goal

abbrev pub decreases-in_name_order : goal.decreases-in_name_order
decreases-in_name_order g l = length l.list.now
