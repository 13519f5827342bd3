-- The views of all seats, and the sum of their callers.
use Rattle.std.proofs.Common.{◌≡◌, ◌≢◌, ℕ, zero, suc, ◌+◌, ◌≤◌, List, [], ◌∷◌, ◌++◌, set, sym, refl, ap, subst, ⊎_elim, arith}
use mathlib.Core.Option.{some, some-ne-none, some-injective}
use lib.ListN.{get_elem?}
use Rattle.atomic_table.proofs.Lists.{at_set, at_snoc}
use Rattle.dm_rulelock.specs.declared.view.View.{View}
use Rattle.dm_rulelock.specs.Rule.{total_callers, EachView}

module _ {I : Type 0} where
  pub EachView-one : (F : ℕ → View I → Type 0) (v : View I) → F 0 v → EachView F (v ∷ [])
  EachView-one F v first zero u at = subst (F 0) (some-injective v u at) first
  EachView-one F v first (suc seat) u at = absurd (some-ne-none u (sym at))

  -- one view was set, and the fact holds of it and of each other one
  pub EachView-set : (F : ℕ → View I → Type 0) (views : List (View I)) (id : ℕ) (v : View I)
      → F id v
      → ((seat : ℕ) (u : View I) → seat ≢ id → get_elem? views seat ≡ some u → F seat u)
      → EachView F (set views id v)
  EachView-set F views id v mine others seat u at = ⊎_elim
      (λ (same : (seat ≡ id) × (v ≡ u)).
      subst (λ (pair : ℕ × View I). F pair.0 pair.1) (λ k. (sym same.0 k, same.1 k)) mine)
      (λ (other : (seat ≢ id) × (get_elem? views seat ≡ some u)). others seat u other.0 other.1)
      (at_set views id seat v u at)

  -- the same, where the fact held of each view before
  pub EachView-set_one : (F : ℕ → View I → Type 0) (views : List (View I)) (id : ℕ) (v : View I) → F id v → EachView F views → EachView F (set views id v)
  EachView-set_one F views id v mine old = EachView-set F views id v mine (λ seat u _ at. old seat u at)

  pub EachView-snoc : (F : ℕ → View I → Type 0) (views : List (View I)) (v : View I)
      → EachView F views → ((seat : ℕ) → F seat v) → EachView F (views ++ v ∷ [])
  EachView-snoc F views v old new seat u at = ⊎_elim (old seat u) (λ (same : v ≡ u). subst (F seat) same (new seat)) (at_snoc views v u seat at)

  pub get_elem?-set : (views : List (View I)) (id : ℕ) (v w : View I) → get_elem? views id ≡ some v → get_elem? (set views id w) id ≡ some w
  get_elem?-set [] id v w at = absurd (some-ne-none v (sym at))
  get_elem?-set (x ∷ xs) zero v w at = refl
  get_elem?-set (x ∷ xs) (suc id) v w at = get_elem?-set xs id v w at

  callers_at : (x v : View I) → some x ≡ some v → x.callers ≡ v.callers
  callers_at x v at = ap (λ (u : View I). u.callers) (some-injective x v at)

  pub total_callers-set : (views : List (View I)) (id : ℕ) (v w : View I)
      → get_elem? views id ≡ some v → total_callers (set views id w) + v.callers ≡ total_callers views + w.callers
  total_callers-set [] id v w at = absurd (some-ne-none v (sym at))
  total_callers-set (x ∷ xs) zero v w at = let same = callers_at x v at in omega arith
  total_callers-set (x ∷ xs) (suc id) v w at = let rest = total_callers-set xs id v w at in omega arith

  pub total_callers-snoc : (views : List (View I)) (v : View I) → total_callers (views ++ v ∷ []) ≡ total_callers views + v.callers
  total_callers-snoc [] v = omega arith
  total_callers-snoc (x ∷ xs) v = let rest = total_callers-snoc xs v in omega arith

  one_in_total : (views : List (View I)) (id : ℕ) (v : View I) → get_elem? views id ≡ some v → v.callers ≤ total_callers views
  one_in_total [] id v at = absurd (some-ne-none v (sym at))
  one_in_total (x ∷ xs) zero v at = let same = callers_at x v at in omega arith
  one_in_total (x ∷ xs) (suc id) v at = let rest = one_in_total xs id v at in omega arith

  -- two seats have no more callers than all
  pub two_in_total : (views : List (View I)) (i j : ℕ) (v w : View I)
      → i ≢ j
      → get_elem? views i ≡ some v
      → get_elem? views j ≡ some w
      → v.callers + w.callers ≤ total_callers views
  two_in_total [] i j v w apart at there = absurd (some-ne-none v (sym at))
  two_in_total (x ∷ xs) zero zero v w apart at there = absurd (apart refl)
  two_in_total (x ∷ xs) zero (suc j) v w apart at there =
      let same = callers_at x v at in
      let rest = one_in_total xs j w there in
      omega arith
  two_in_total (x ∷ xs) (suc i) zero v w apart at there =
      let same = callers_at x w there in
      let rest = one_in_total xs i v at in
      omega arith
  two_in_total (x ∷ xs) (suc i) (suc j) v w apart at there =
      let rest = two_in_total xs i j v w (λ e. apart (ap suc e)) at there in omega arith
