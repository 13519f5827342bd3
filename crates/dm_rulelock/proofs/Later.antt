-- What a pass knows only grows, from call to call.
use Rattle.std.proofs.Common.{◌≡◌, List, ℕ, refl, ap, ◌∙◌, subst, sym, arith, ◌≤◌}
use Rattle.dm_rulelock.specs.declared.view.View.{View}
use Rattle.dm_rulelock.specs.Positions.{AtMost, greater}
use Rattle.dm_rulelock.specs.Views.{after_take, after_give, after_split, split_off, after_join}
use Rattle.dm_rulelock.specs.Passes.{IsLater}
use Rattle.dm_rulelock.proofs.Positions.{AtMost-refl, AtMost-trans, AtMost-greater}

module _ {I : Type 0} where
  pub IsLater-refl : (v : View I) → IsLater v v
  IsLater-refl v = record { callers = refl; inputs = refl; seen = AtMost-refl v.seen }

  pub IsLater-trans : (u v w : View I) → IsLater u v → IsLater v w → IsLater u w
  IsLater-trans u v w first second = record {
    callers = second.callers ∙ first.callers;
    inputs = second.inputs ∙ first.inputs;
    seen = AtMost-trans u.seen v.seen w.seen first.seen second.seen;
  }

  -- a value was taken and given back, as far or further
  pub IsLater-turn : (u v w : View I) (took gave : List ℕ)
      → AtMost u.seen took
      → AtMost took gave
      → v ≡ after_take u took
      → w ≡ after_give v gave
      → IsLater u w
  IsLater-turn u v w took gave up further taken given = record {
    callers = ap (λ (x : View I). x.callers) given ∙ ap (λ (x : View I). x.callers) taken;
    inputs = ap (λ (x : View I). x.inputs) given ∙ ap (λ (x : View I). x.inputs) taken;
    seen = subst (AtMost u.seen) (sym (ap (λ (x : View I). x.seen) given)) (AtMost-trans u.seen took gave up further);
  }

  -- a pass was split, and the two, some calls later, were joined
  pub IsLater-join : (u v w x : View I)
      → 2 ≤ u.callers
      → IsLater (after_split u) v
      → IsLater (split_off u) w
      → x ≡ after_join v w
      → IsLater u x
  IsLater-join u v w x two first second joined =
      let stayed = first.callers in
      let left = second.callers in
      let both = ap (λ (y : View I). y.callers) joined in record {
        callers = omega arith;
        inputs = ap (λ (y : View I). y.inputs) joined ∙ first.inputs;
        seen = subst (AtMost u.seen) (sym (ap (λ (y : View I). y.seen) joined))
            (AtMost-trans u.seen v.seen (greater v.seen w.seen) first.seen (AtMost-greater v.seen w.seen));
      }
