use Rattle.std.proofs.Common.{◌+◌}
use Rattle.dm_encode.proofs.decimals.+push_groups.Given as goal

abbrev pub decreases-push_groups : goal.decreases-push_groups
decreases-push_groups l = l.whole + l.fraction
