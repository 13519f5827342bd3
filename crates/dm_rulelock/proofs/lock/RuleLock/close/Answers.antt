use Rattle.std.proofs.Common.{Some, sym, ap, ◌∙◌, subst}
use mathlib.Core.Option.{some-injective}
use Rattle.dm_rulelock.specs.Positions.{AtMost}
use Rattle.dm_rulelock.proofs.RuleLemmas.{Some-injective}
use Rattle.dm_rulelock.proofs.Steps.{at_home}
use Rattle.dm_rulelock.proofs.lock.RuleLock.close.Goals as goal

pub unreachable-requires : goal.unreachable-requires
unreachable-requires g c =
    let home = at_home _ _ _ _ _ _ _ _ c.requires.free c.requires.all c.args.pass.has_callers c.close_with-closed.ensures.values.2 in
    c.in_default.not-Some _ (some-injective _ _ (sym c.take-slot.ensures.value ∙ home.1))

pub returns-clause-inputs : goal.returns-clause-inputs
returns-clause-inputs g c =
    let home = at_home _ _ _ _ _ _ _ _ c.requires.free c.requires.all c.args.pass.has_callers c.close_with-closed.ensures.values.2 in
    let same = Some-injective _ _ (sym c.in-Some.is ∙ some-injective _ _ (sym c.take-slot.ensures.value ∙ home.1)) in
    home.2 ∙ ap (λ value. Some (g.V.Kept.inputs value)) (sym same)

pub returns-clause-positions : goal.returns-clause-positions
returns-clause-positions g c =
    let home = at_home _ _ _ _ _ _ _ _ c.requires.free c.requires.all c.args.pass.has_callers c.close_with-closed.ensures.values.2 in
    let same = Some-injective _ _ (sym c.in-Some.is ∙ some-injective _ _ (sym c.take-slot.ensures.value ∙ home.1)) in
    subst (λ value. AtMost c.args.pass.seat.me.0.seen (g.V.Kept.positions value)) (sym same) home.3
