use Rattle.std.proofs.Common.{rules, ◌∷◌, Some, sym, ap, ◌∙◌, subst, ◌<◌}
use Rattle.atomic_table.specs.Table.{rest}
use Rattle.dm_rulelock.specs.Views.{held_slots}
use Rattle.dm_rulelock.proofs.RuleLemmas.{some_of}
use Rattle.dm_rulelock.proofs.Steps.{allows_give}
use Rattle.dm_rulelock.proofs.lock.RuleLock.give.Goals as goal

pub swap-requires : goal.swap-requires
swap-requires g c =
    let laid = c.exchange-left.ensures in
    let took = some_of _ c.requires.taken in
    let held = c.args.pass.now.holds ∙ ap held_slots took.1 in (
      search rules,
      search rules,
      allows_give _ _ _ _ _ _ _ took.0 c.args.value
          (ap (λ me. me.0.taken) laid.3 ∙ took.1)
          (ap (λ me. me.1) laid.3 ∙ ap (λ slots. (0, Some c.args.value) ∷ rest slots) held)
          (ap (λ me. me.0.inputs) laid.3 ∙ c.requires.inputs)
          (c.requires.positions took.0 took.1)
          (subst (λ me. 0 < me.0.callers) (sym laid.3) c.args.pass.now.has_callers),
    )
