use Rattle.std.proofs.Common.{◌≡◌, ◌-◌, arith, refl, sym, ◌∙◌, length, take, drop}
use Rattle.std.proofs.lemmas.List.{take_rest, length-drop}
use Rattle.dm_lex.proofs.ClosingLemmas.{closed_goes_on}
use Rattle.dm_lex.proofs.closing.closed_length.Goals as goal

pub loop-rest-preserved : goal.loop-rest-preserved
loop-rest-preserved c =
    let rest = c.loop-rest.rest.now in
    let step = c.in-Some.step in
    let shorter : length (take (length rest - step) (drop step rest)) ≡ length rest - step = rw (take_rest, length-drop) refl in
    (closed_goes_on _ _ _ _ _ _ rest _ _ c.in-len2-up.len_at_least refl refl (sym c.in-Some.is ∙ c.step_over.ensures.value) (take_rest rest step) c.loop-rest.invariant.0, omega (arith, c.in-Some.ensures.few))
