use Rattle.std.proofs.Common.{length}
use Rattle.dm_stmt.proofs.values.+push_further_equations.Given as goal

abbrev pub decreases-push_further_equations : goal.decreases-push_further_equations
decreases-push_further_equations l = length l.names.now
