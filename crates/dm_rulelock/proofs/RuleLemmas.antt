-- What the rule says of one seat, and of the sum of the callers after a step.
use Rattle.std.proofs.Common.{◌≡◌, ◌≢◌, ℕ, ◌<◌, ◌≤◌, List, [], ◌∷◌, ◌++◌, set, Option, Some, None, IsSome, refl, sym, ap, ◌∙◌, subst, ⊎_elim, arith}
use mathlib.Core.Option.{some, some-injective}
use lib.ListN.{get_elem?}
use Rattle.atomic_table.specs.Table.{State}
use Rattle.dm_rulelock.specs.declared.view.View.{View}
use Rattle.dm_rulelock.specs.Views.{spent, after_split, split_off, after_join}
use Rattle.dm_rulelock.specs.Rule.{total_callers, FitsLock, IsTaken}
use Rattle.dm_rulelock.proofs.Views.{total_callers-set, total_callers-snoc}

pub Some-ne-None : {A : Type 0} {a : A} {o : Option A} → o ≡ Some a → o ≡ None → ⊥
Some-ne-None is isn't = cc

pub Some-injective : {A : Type 0} (a b : A) → Some a ≡ Some b → a ≡ b
Some-injective a b same = cc

pub some_of : {A : Type 0} (o : Option A) → IsSome o → (a : A) × (o ≡ Some a)
some_of (Some a) is = (a, refl)
some_of None is = absurd (cc)

-- a seat with a caller has the lock's inputs
pub inputs_of : {I : Type 0} (over : I) (seat : ℕ) (v : View I) → FitsLock over seat v → 0 < v.callers → v.inputs ≡ Some over
inputs_of over seat v belongs live = ⊎_elim
    (λ (is_spent : v ≡ spent). let none_left : v.callers ≡ 0 = ap (λ (u : View _). u.callers) is_spent in absurd (omega arith))
    (λ both. both.1)
    belongs

module _ {T I : Type 0} (s : State (Option T) (View I)) (out : IsTaken s) (id : ℕ) (v : View I) (at : get_elem? s.views id ≡ some v) where
  at_holder : out.holder ≡ id → v.taken ≡ Some out.mark
  at_holder same =
      let is : out.marked.0 ≡ v = some-injective out.marked.0 v (sym out.marked.1 ∙ (ap (get_elem? s.views) same ∙ at)) in
      subst (λ (u : View I). u.taken ≡ Some out.mark) is out.marked.2

  -- a seat whose view is marked has the value, and the mark is the rule's
  pub is_holder : (took : List ℕ) → v.taken ≡ Some took → (id ≡ out.holder) × (out.mark ≡ took)
  is_holder took marked =
      let same : id ≡ out.holder = ⊎_elim (λ (is : id ≡ out.holder). is) (λ free. absurd (Some-ne-None marked free)) (out.views id v at).1 in
      (same, Some-injective out.mark took (sym (at_holder (sym same)) ∙ marked))

  -- a seat whose view isn't marked has not
  pub not_holder : v.taken ≡ None → out.holder ≢ id
  not_holder free same = Some-ne-None (at_holder same) free

module _ {I : Type 0} (views : List (View I)) (id : ℕ) (v : View I) (at : get_elem? views id ≡ some v) where
  -- a step that keeps the callers of its seat
  pub total_callers-same : (w : View I) → w.callers ≡ v.callers → total_callers (set views id w) ≡ total_callers views
  total_callers-same w same = let changed = total_callers-set views id v w at in omega arith

  pub total_callers-split : 2 ≤ v.callers → total_callers (set views id (after_split v) ++ split_off v ∷ []) ≡ total_callers views
  total_callers-split two =
      let added = total_callers-snoc (set views id (after_split v)) (split_off v) in
      let changed = total_callers-set views id v (after_split v) at in
      omega arith

  pub total_callers-join : (other : ℕ) (w : View I)
      → get_elem? (set views id (after_join v w)) other ≡ some w → total_callers (set (set views id (after_join v w)) other spent) ≡ total_callers views
  total_callers-join other w there =
      let taken_in = total_callers-set views id v (after_join v w) at in
      let left = total_callers-set (set views id (after_join v w)) other w spent there in
      omega arith
