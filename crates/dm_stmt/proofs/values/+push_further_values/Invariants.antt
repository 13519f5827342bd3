use Rattle.std.proofs.Common.{length}
use Rattle.dm_stmt.proofs.values.+push_further_values.Given as goal

abbrev pub decreases-push_further_values : goal.decreases-push_further_values
decreases-push_further_values l = length l.names.now
