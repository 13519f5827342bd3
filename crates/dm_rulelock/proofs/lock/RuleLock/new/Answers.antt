use Rattle.std.proofs.Common.{◌∷◌, [], Some, sym, ap, ◌∙◌, subst, refl, arith, ◌++◌}
use Rattle.atomic_table.specs.Table.{opening}
use Rattle.dm_rulelock.specs.Views.{first_view}
use Rattle.dm_rulelock.specs.Rule.{KeepsRule}
use Rattle.dm_rulelock.proofs.Steps.{opens}
use Rattle.dm_rulelock.proofs.lock.RuleLock.new.Goals as goal

pub new-requires : goal.new-requires
new-requires g c =
    let inputs = g.V.Kept.inputs in
    let positions = g.V.Kept.positions in
    let n = c.args.callers in
    let of = c.of.result.value in
    let slots = c.push_reserved.ensures.items ∙ ap (λ items. items ++ Some c.args.value ∷ []) c.in-Ok.ensures.items in
    let begun = opens inputs positions (inputs c.args.value) n c.args.value refl (omega (arith, c.requires.some)) in
    subst (λ xs. KeepsRule inputs positions (inputs of) n (opening (0 ∷ []) xs (first_view (inputs of) (positions of) n))) (sym slots)
    (subst (λ v. KeepsRule inputs positions (inputs v) n (opening (0 ∷ []) (Some c.args.value ∷ []) (first_view (inputs v) (positions v) n))) (sym c.of.ensures) begun)
