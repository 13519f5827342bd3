-- The schema behind the last statement.
use Rattle.std.proofs.Common.{◌≡◌, suc, ◌-◌, List, [], ◌∷◌, length, fold, Some, None, refl, sym, ap, ◌∙◌, arith}
use Rattle.std.specs.Prelude.{slice_get}
use Rattle.dm_schema.specs.Layout.{Layout}

last_behind : (x y : Layout) (ys : List Layout) → slice_get (x ∷ y ∷ ys) (length (x ∷ y ∷ ys) - 1) ≡ slice_get (y ∷ ys) (length (y ∷ ys) - 1)
last_behind x y ys =
    let one : length (x ∷ y ∷ ys) - 1 ≡ suc (length ys) = omega arith in
    let other : length (y ∷ ys) - 1 ≡ length ys = omega arith in
    ap (slice_get (x ∷ y ∷ ys)) one ∙ sym (ap (slice_get (y ∷ ys)) other)

pub latest_some : (first found : Layout) (later : List Layout) → Some found ≡ slice_get later (length later - 1) → found ≡ fold (λ (before after : Layout). after) first later
latest_some first found [] is = absurd cc
latest_some first found (x ∷ []) is = let same : found ≡ x = cc in same
latest_some first found (x ∷ y ∷ ys) is = latest_some x found (y ∷ ys) (is ∙ last_behind x y ys)

pub latest_none : (first : Layout) (later : List Layout) → None ≡ slice_get later (length later - 1) → first ≡ fold (λ (before after : Layout). after) first later
latest_none first [] is = refl
latest_none first (x ∷ []) is = absurd cc
latest_none first (x ∷ y ∷ ys) is = absurd (some_last y ys (is ∙ last_behind x y ys)) where
  some_last : (y : Layout) (ys : List Layout) → None ≡ slice_get (y ∷ ys) (length (y ∷ ys) - 1) → ⊥
  some_last y [] e = cc
  some_last y (z ∷ zs) e = some_last z zs (e ∙ last_behind y z zs)
