use Rattle.std.proofs.Common.{◌*◌, ◌-◌}
use Rattle.dm_rulelock.proofs.tests.workers.+fn-work_in_many-join+arg2+work_in_many.Given as goal

-- a closure stands between the function that makes it and the one that it calls
abbrev pub decreases-join+arg2 : goal.decreases-join+arg2
decreases-join+arg2 g l = 2 * l.workers - 1

abbrev pub decreases-work_in_many : goal.decreases-work_in_many
decreases-work_in_many g l = 2 * l.workers
