-- Laws of the order of names: what is put in order has the same elements, and none has a smaller name than the one before it.
use Rattle.std.proofs.Common.{◌≡◌, ℕ, ◌+◌, ◌<◌, Bool, true, false, cond, List, [], ◌∷◌, length, refl, sym, ap, ◌∙◌, arith}
use Rattle.std.specs.Prelude.{⊤}
use Rattle.std.specs.declared.cmp.Ordering.{Ordering}
use Rattle.std.specs.declared.cmp.Ordering.TheVariants.{Less, Equal, Greater}
use Rattle.std.specs.Ordering.{is_lt, ordering_reverse}
use Rattle.std.specs.List.Sorted.{IsPermutation}
use Rattle.std.proofs.lemmas.Cmp.{nat_list_cmp_total}
use Rattle.std.proofs.lemmas.List.Sorted.{IsPermutation-refl, IsPermutation-trans, IsPermutation-cons, IsPermutation-swap}
use Rattle.dm_schema.specs.Names.{Text, name_cmp}
use Rattle.dm_schema.specs.NameOrder.{put_by, in_order_of}

abbrev is_before : {A : Type 0} → (A → Text) → A → A → Bool
is_before name x y = is_lt (name_cmp (name x) (name y))

put_permutes : {A : Type 0} (name : A → Text) (x : A) (ys : List A) → IsPermutation (x ∷ ys) (put_by name x ys)
put_permutes name x [] = IsPermutation-refl (x ∷ [])
put_permutes name x (y ∷ ys) = by (is_before name x y) (put_permutes name x ys) where
  by : (b : Bool) → IsPermutation (x ∷ ys) (put_by name x ys) → IsPermutation (x ∷ y ∷ ys) (cond b (x ∷ y ∷ ys) (y ∷ put_by name x ys))
  by true put = IsPermutation-refl (x ∷ y ∷ ys)
  by false put =
      IsPermutation-trans (x ∷ y ∷ ys) (y ∷ x ∷ ys) (y ∷ put_by name x ys)
      (IsPermutation-swap (x ∷ y ∷ ys) (y ∷ x ∷ ys) 0 1 (omega arith) (omega arith) refl)
      (IsPermutation-cons y (x ∷ ys) (put_by name x ys) put)

pub in_order_permutes : {A : Type 0} (name : A → Text) (xs : List A) → IsPermutation xs (in_order_of name xs)
in_order_permutes name [] = IsPermutation-refl []
in_order_permutes name (x ∷ xs) =
    IsPermutation-trans (x ∷ xs) (x ∷ in_order_of name xs) (put_by name x (in_order_of name xs))
    (IsPermutation-cons x xs (in_order_of name xs) (in_order_permutes name xs)) (put_permutes name x (in_order_of name xs))

-- no name is before that of the element before it
abbrev pub IsInOrder : {A : Type 0} → (A → Text) → List A → Type 0
IsInOrder name [] = ⊤
IsInOrder name (x ∷ []) = ⊤
IsInOrder name (x ∷ y ∷ ys) = (is_before name y x ≡ false) × IsInOrder name (y ∷ ys)

reversed : (o : Ordering) → is_lt o ≡ true → is_lt (ordering_reverse o) ≡ false
reversed Less h = refl
reversed Equal h = refl
reversed Greater h = cc

-- of two names at most one is before the other
not_both : {A : Type 0} (name : A → Text) (x y : A) → is_before name x y ≡ true → is_before name y x ≡ false
not_both name x y before = ap is_lt (nat_list_cmp_total.antisymm (name y) (name x)) ∙ reversed (name_cmp (name x) (name y)) before

-- an element that isn't before the first is put behind it
behind_first : {A : Type 0} (name : A → Text) (x y : A) (ys : List A) → is_before name x y ≡ false → IsInOrder name (y ∷ ys) → IsInOrder name (put_by name x ys) → IsInOrder name (y ∷ put_by name x ys)
behind_first name x y [] behind h put = (behind, tt)
behind_first name x y (z ∷ zs) behind h put = by (is_before name x z) put where
  by : (b : Bool) → IsInOrder name (cond b (x ∷ z ∷ zs) (z ∷ put_by name x zs)) → IsInOrder name (y ∷ cond b (x ∷ z ∷ zs) (z ∷ put_by name x zs))
  by true put = (behind, put)
  by false put = (h.0, put)

rest_in_order : {A : Type 0} (name : A → Text) (y : A) (ys : List A) → IsInOrder name (y ∷ ys) → IsInOrder name ys
rest_in_order name y [] h = tt
rest_in_order name y (z ∷ zs) h = h.1

put_in_order : {A : Type 0} (name : A → Text) (x : A) (ys : List A) → IsInOrder name ys → IsInOrder name (put_by name x ys)
put_in_order name x [] h = tt
put_in_order name x (y ∷ ys) h = by (is_before name x y) refl (put_in_order name x ys (rest_in_order name y ys h)) where
  by : (b : Bool) → is_before name x y ≡ b → IsInOrder name (put_by name x ys) → IsInOrder name (cond b (x ∷ y ∷ ys) (y ∷ put_by name x ys))
  by true before put = (not_both name x y before, h)
  by false behind put = behind_first name x y ys behind h put

pub in_order_is_in_order : {A : Type 0} (name : A → Text) (xs : List A) → IsInOrder name (in_order_of name xs)
in_order_is_in_order name [] = tt
in_order_is_in_order name (x ∷ xs) = put_in_order name x (in_order_of name xs) (in_order_is_in_order name xs)
