use Rattle.std.proofs.Common.{length}
use Rattle.dm_schema.proofs.schema.+has_unfit_default.Given as goal

abbrev pub decreases-has_unfit_default : goal.decreases-has_unfit_default
decreases-has_unfit_default l = length l.columns.now
