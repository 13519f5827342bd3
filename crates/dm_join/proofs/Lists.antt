-- What is in a list, and what tests of lists say of it.
use Rattle.std.proofs.Common.{◌≡◌, ℕ, ◌+◌, ◌<◌, Bool, true, false, cond, List, [], ◌∷◌, ◌++◌, length, get_or, take, map, Option, Some, None, refl, sym, ap, subst, ◌∙◌, inl, inr}
use Rattle.std.specs.Prelude.{◌⊎◌}
use Rattle.std.specs.List.{list_any, list_all, filter, filter_map, flat_map, cons_option}
use Rattle.std.proofs.lemmas.Bool.{false≢true, or_cases, or_left, or_right, or_parts, or_from, and_parts, and_from, cond-true}
use Rattle.std.proofs.lemmas.List.Elements.{filter_more}
use Rattle.std.proofs.Common.{append-nil}

-- an element of the list
abbrev pub IsIn : {A : Type 0} → A → List A → Type 0
IsIn x [] = ⊥
IsIn x (y ∷ ys) = (y ≡ x) ⊎ IsIn x ys

pub all_of : {A : Type 0} (f : A → Bool) (xs : List A) (x : A) → list_all f xs ≡ true → IsIn x xs → f x ≡ true
all_of f [] x all h = absurd h
all_of f (y ∷ ys) x all (inl e) = ap f (sym e) ∙ (and_parts (f y) (list_all f ys) all).0
all_of f (y ∷ ys) x all (inr h) = all_of f ys x (and_parts (f y) (list_all f ys) all).1 h

pub all_from : {A : Type 0} (f : A → Bool) (xs : List A) → ((x : A) → IsIn x xs → f x ≡ true) → list_all f xs ≡ true
all_from f [] h = refl
all_from f (x ∷ xs) h = and_from (f x) (list_all f xs) (h x (inl refl)) (all_from f xs (λ y i. h y (inr i)))

pub any_of : {A : Type 0} (f : A → Bool) (xs : List A) (x : A) → IsIn x xs → f x ≡ true → list_any f xs ≡ true
any_of f [] x h e = absurd h
any_of f (y ∷ ys) x (inl is) e = or_left (f y) (list_any f ys) (ap f is ∙ e)
any_of f (y ∷ ys) x (inr h) e = or_right (f y) (list_any f ys) (any_of f ys x h e)

pub any_from : {A : Type 0} (f : A → Bool) (xs : List A) → list_any f xs ≡ true → (x : A) × IsIn x xs × (f x ≡ true)
any_from f [] e = absurd (false≢true e)
any_from f (x ∷ xs) e = by (or_cases (f x) (list_any f xs) e) (any_from f xs) where
  by : (f x ≡ true) ⊎ (list_any f xs ≡ true) → (list_any f xs ≡ true → (y : _) × IsIn y xs × (f y ≡ true)) → (y : _) × IsIn y (x ∷ xs) × (f y ≡ true)
  by (inl here) rest = (x, inl refl, here)
  by (inr later) rest = let r = rest later in (r.0, inr r.1, r.2)

pub none_of : {A : Type 0} (f : A → Bool) (xs : List A) (x : A) → list_any f xs ≡ false → IsIn x xs → f x ≡ false
none_of f [] x e h = absurd h
none_of f (y ∷ ys) x e (inl is) = ap f (sym is) ∙ (or_parts (f y) (list_any f ys) e).0
none_of f (y ∷ ys) x e (inr h) = none_of f ys x (or_parts (f y) (list_any f ys) e).1 h

pub none_from : {A : Type 0} (f : A → Bool) (xs : List A) → ((x : A) → IsIn x xs → f x ≡ false) → list_any f xs ≡ false
none_from f [] h = refl
none_from f (x ∷ xs) h = or_from (f x) (list_any f xs) (h x (inl refl)) (none_from f xs (λ y i. h y (inr i)))

pub in_left : {A : Type 0} (xs ys : List A) (x : A) → IsIn x xs → IsIn x (xs ++ ys)
in_left [] ys x h = absurd h
in_left (z ∷ zs) ys x (inl e) = inl e
in_left (z ∷ zs) ys x (inr h) = inr (in_left zs ys x h)

pub in_right : {A : Type 0} (xs ys : List A) (x : A) → IsIn x ys → IsIn x (xs ++ ys)
in_right [] ys x h = h
in_right (z ∷ zs) ys x h = inr (in_right zs ys x h)

pub in_either : {A : Type 0} (xs ys : List A) (x : A) → IsIn x (xs ++ ys) → IsIn x xs ⊎ IsIn x ys
in_either [] ys x h = inr h
in_either (z ∷ zs) ys x (inl e) = inl (inl e)
in_either (z ∷ zs) ys x (inr h) = by (in_either zs ys x h) where
  by : IsIn x zs ⊎ IsIn x ys → IsIn x (z ∷ zs) ⊎ IsIn x ys
  by (inl i) = inl (inr i)
  by (inr i) = inr i

pub in_filter : {A : Type 0} (f : A → Bool) (xs : List A) (x : A) → IsIn x xs → f x ≡ true → IsIn x (filter f xs)
in_filter f [] x h e = absurd h
in_filter f (y ∷ ys) x (inl is) e = subst (IsIn x) (sym (cond-true (f y) (y ∷ filter f ys) (filter f ys) (ap f is ∙ e))) (inl is)
in_filter f (y ∷ ys) x (inr h) e = by (f y) (in_filter f ys x h e) where
  by : (b : Bool) → IsIn x (filter f ys) → IsIn x (cond b (y ∷ filter f ys) (filter f ys))
  by true i = inr i
  by false i = i

pub from_filter : {A : Type 0} (f : A → Bool) (xs : List A) (x : A) → IsIn x (filter f xs) → IsIn x xs × (f x ≡ true)
from_filter f [] x h = absurd h
from_filter f (y ∷ ys) x h = by (f y) refl h (from_filter f ys x) where
  by : (b : Bool) → f y ≡ b → IsIn x (cond b (y ∷ filter f ys) (filter f ys)) → (IsIn x (filter f ys) → IsIn x ys × (f x ≡ true)) → IsIn x (y ∷ ys) × (f x ≡ true)
  by true e (inl is) rest = (inl is, ap f (sym is) ∙ e)
  by true e (inr i) rest = let r = rest i in (inr r.0, r.1)
  by false e i rest = let r = rest i in (inr r.0, r.1)

pub in_map : {A B : Type 0} (f : A → B) (xs : List A) (x : A) → IsIn x xs → IsIn (f x) (map f xs)
in_map f [] x h = absurd h
in_map f (y ∷ ys) x (inl is) = inl (ap f is)
in_map f (y ∷ ys) x (inr h) = inr (in_map f ys x h)

pub from_map : {A B : Type 0} (f : A → B) (xs : List A) (y : B) → IsIn y (map f xs) → (x : A) × IsIn x xs × (f x ≡ y)
from_map f [] y h = absurd h
from_map f (x ∷ xs) y (inl is) = (x, inl refl, is)
from_map f (x ∷ xs) y (inr h) = let r = from_map f xs y h in (r.0, inr r.1, r.2)

pub in_flat : {A B : Type 0} (f : A → List B) (xs : List A) (x : A) (y : B) → IsIn x xs → IsIn y (f x) → IsIn y (flat_map f xs)
in_flat f [] x y h i = absurd h
in_flat f (z ∷ zs) x y (inl is) i = in_left (f z) (flat_map f zs) y (subst (λ w. IsIn y (f w)) (sym is) i)
in_flat f (z ∷ zs) x y (inr h) i = in_right (f z) (flat_map f zs) y (in_flat f zs x y h i)

pub from_flat : {A B : Type 0} (f : A → List B) (xs : List A) (y : B) → IsIn y (flat_map f xs) → (x : A) × IsIn x xs × IsIn y (f x)
from_flat f [] y h = absurd h
from_flat f (z ∷ zs) y h = by (in_either (f z) (flat_map f zs) y h) (from_flat f zs y) where
  by : IsIn y (f z) ⊎ IsIn y (flat_map f zs) → (IsIn y (flat_map f zs) → (x : _) × IsIn x zs × IsIn y (f x)) → (x : _) × IsIn x (z ∷ zs) × IsIn y (f x)
  by (inl i) rest = (z, inl refl, i)
  by (inr i) rest = let r = rest i in (r.0, inr r.1, r.2)

pub in_filter_map : {A B : Type 0} (f : A → Option B) (xs : List A) (x : A) (y : B) → IsIn x xs → f x ≡ Some y → IsIn y (filter_map f xs)
in_filter_map f [] x y h e = absurd h
in_filter_map f (z ∷ zs) x y (inl is) e = subst (λ o. IsIn y (cons_option o (filter_map f zs))) (sym (ap f is ∙ e)) (inl refl)
in_filter_map f (z ∷ zs) x y (inr h) e = by (f z) (in_filter_map f zs x y h e) where
  by : (o : Option _) → IsIn y (filter_map f zs) → IsIn y (cons_option o (filter_map f zs))
  by None i = i
  by (Some w) i = inr i

pub from_filter_map : {A B : Type 0} (f : A → Option B) (xs : List A) (y : B) → IsIn y (filter_map f xs) → (x : A) × IsIn x xs × (f x ≡ Some y)
from_filter_map f [] y h = absurd h
from_filter_map {A} {B} f (z ∷ zs) y h = by (f z) refl h (from_filter_map f zs y) where
  by : (o : Option B) → f z ≡ o → IsIn y (cons_option o (filter_map f zs)) → (IsIn y (filter_map f zs) → (x : A) × IsIn x zs × (f x ≡ Some y)) → (x : A) × IsIn x (z ∷ zs) × (f x ≡ Some y)
  by None e i rest = let r = rest i in (r.0, inr r.1, r.2)
  by (Some w) e (inl is) rest = (z, inl refl, e ∙ ap Some is)
  by (Some w) e (inr i) rest = let r = rest i in (r.0, inr r.1, r.2)

pub no_element : {A : Type 0} (xs : List A) → ((x : A) → IsIn x xs → ⊥) → xs ≡ []
no_element [] h = refl
no_element (x ∷ xs) h = absurd (h x (inl refl))

-- one more turn of a loop that keeps what passes
pub keep_passing : {A : Type 0} (f : A → Bool) (xs kept : List A) (i : ℕ) (x : A) → i < length xs → x ≡ get_or xs i x → kept ≡ filter f (take i xs) → f x ≡ true → kept ++ x ∷ [] ≡ filter f (take (i + 1) xs)
keep_passing f xs kept i x lt here so_far passes =
    ap (λ ys. ys ++ x ∷ []) so_far
    ∙ ap (λ b. filter f (take i xs) ++ cond b (x ∷ []) []) (sym passes)
    ∙ ap (λ y. filter f (take i xs) ++ cond (f y) (y ∷ []) []) here
    ∙ sym (filter_more f xs i x lt)

pub skip_failing : {A : Type 0} (f : A → Bool) (xs kept : List A) (i : ℕ) (x : A) → i < length xs → x ≡ get_or xs i x → kept ≡ filter f (take i xs) → f x ≡ false → kept ≡ filter f (take (i + 1) xs)
skip_failing f xs kept i x lt here so_far fails =
    so_far ∙ sym (append-nil (filter f (take i xs)))
    ∙ ap (λ b. filter f (take i xs) ++ cond b (x ∷ []) []) (sym fails)
    ∙ ap (λ y. filter f (take i xs) ++ cond (f y) (y ∷ []) []) here
    ∙ sym (filter_more f xs i x lt)
