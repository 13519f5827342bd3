use Rattle.std.proofs.Common.{rules}
use Rattle.dm_rulelock.proofs.Steps.{allows_split}
use Rattle.dm_rulelock.proofs.lock.RuleLock.split.Goals as goal

pub split_seat-requires : goal.split_seat-requires
split_seat-requires g c = (search rules, search rules, allows_split _ _ _ _ _ _ c.requires.free c.requires.callers)
