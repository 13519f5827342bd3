use Rattle.std.proofs.Common.{rules, ◌∷◌, Some, sym, ap, ◌∙◌}
use Rattle.atomic_table.specs.Table.{rest}
use Rattle.dm_rulelock.proofs.Steps.{allows_take}
use Rattle.dm_rulelock.proofs.lock.RuleLock.take.Goals as goal

pub compare_exchange-requires : goal.compare_exchange-requires
compare_exchange-requires g c = (search rules, search rules, allows_take _ _ _ _ _ _ _ c.loop.pass.has_callers)

pub exchange-requires : goal.exchange-requires
exchange-requires g c =
    let took = c.compare_exchange.ensures.2.0 c.if-compare_exchange-eq-FREE.true in
    let out = ap (λ me. me.1) took.1 in
    let own = c.compare_exchange.ensures.0 ∙ (c.loop.invariant.0 ∙ c.requires.own) in
    (own, (Some took.0, out ∙ ap (λ slots. (0, Some took.0) ∷ rest slots) (sym out)))
