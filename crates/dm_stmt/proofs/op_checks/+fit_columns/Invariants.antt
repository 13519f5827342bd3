use Rattle.std.proofs.Common.{length}
use Rattle.dm_stmt.proofs.op_checks.+fit_columns.Given as goal

abbrev pub decreases-fit_columns : goal.decreases-fit_columns
decreases-fit_columns l = length l.names.now
