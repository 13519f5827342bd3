use Rattle.std.proofs.Common.{rules, ap, ◌∙◌}
use Rattle.dm_rulelock.specs.Views.{held_slots}
use Rattle.dm_rulelock.proofs.Steps.{allows_join}
use Rattle.dm_rulelock.proofs.lock.RuleLock.join.Goals as goal

pub join_seat-requires : goal.join_seat-requires
join_seat-requires g c =
    let holds_none = c.args.other.holds ∙ ap held_slots c.requires.other_free in
    let allowed = allows_join _ _ _ _ _ _ _ _ c.requires.free c.requires.other_free c.args.pass.now.has_callers in
    (c.requires.own, c.requires.other_own, holds_none, search rules, allowed)
