-- Tests over lists.
use Rattle.std.proofs.Common.{◌≡◌, Bool, true, false, cond, not, ◌&&◌, ◌||◌, List, [], ◌∷◌, map, Some, None, refl, sym, ap, ◌∙◌}
use Rattle.std.specs.List.{list_any, list_all, find}
use Rattle.std.specs.Ordering.{is_lt}
use Rattle.std.proofs.lemmas.Bool.{and_from, and_parts, or_parts, or_from, false≢true}
use Rattle.dm_list.specs.Answer.{first_refusal}
use Rattle.dm_schema.specs.Names.{Text, name_cmp}
use Rattle.dm_schema.specs.NameOrder.{put_by, in_order_of}

pub each : {A : Type 0} (p q : A → Bool) → ((x : A) → p x ≡ true → q x ≡ true) → (xs : List A) → list_all p xs ≡ true → list_all q xs ≡ true
each p q step [] h = refl
each p q step (x ∷ xs) h = let parts = and_parts (p x) (list_all p xs) h in and_from (q x) (list_all q xs) (step x parts.0) (each p q step xs parts.1)

pub each_of_two : {A : Type 0} (p q r : A → Bool) → ((x : A) → p x ≡ true → q x ≡ true → r x ≡ true) → (xs : List A) → list_all p xs ≡ true → list_all q xs ≡ true → list_all r xs ≡ true
each_of_two p q r step [] h k = refl
each_of_two p q r step (x ∷ xs) h k =
    let one = and_parts (p x) (list_all p xs) h in
    let two = and_parts (q x) (list_all q xs) k in
    and_from (r x) (list_all r xs) (step x one.0 two.0) (each_of_two p q r step xs one.1 two.1)

pub list_any-map : {A B : Type 0} (p : B → Bool) (f : A → B) (xs : List A) → list_any p (map f xs) ≡ list_any (λ x. p (f x)) xs
list_any-map p f [] = refl
list_any-map p f (x ∷ xs) = ap (λ b. p (f x) || b) (list_any-map p f xs)

pub all_pass_not : {A : Type 0} (p : A → Bool) (xs : List A) → list_any p xs ≡ false → list_all (λ x. not (p x)) xs ≡ true
all_pass_not p [] h = refl
all_pass_not p (x ∷ xs) h = let parts = or_parts (p x) (list_any p xs) h in and_from (not (p x)) (list_all (λ x. not (p x)) xs) (ap not parts.0) (all_pass_not p xs parts.1)

pub turned : (b : Bool) → not b ≡ true → b ≡ false
turned true h = absurd (false≢true h)
turned false h = refl

pub none_passes : {A : Type 0} (p : A → Bool) (xs : List A) → list_all (λ x. not (p x)) xs ≡ true → list_any p xs ≡ false
none_passes p [] h = refl
none_passes p (x ∷ xs) h = let parts = and_parts (not (p x)) (list_all (λ x. not (p x)) xs) h in or_from (p x) (list_any p xs) (turned (p x) parts.0) (none_passes p xs parts.1)

-- what is found passes each test that all pass, and the one that it was found by
pub found_passes : {A : Type 0} (t p : A → Bool) (xs : List A) (x : A) → find t xs ≡ Some x → list_all p xs ≡ true → p x ≡ true
found_passes t p [] x is h = absurd (cc is)
found_passes t p (y ∷ ys) x is h = by (t y) is (found_passes t p ys x) where
  by : (b : Bool) → cond b (Some y) (find t ys) ≡ Some x → (find t ys ≡ Some x → list_all p ys ≡ true → p x ≡ true) → p x ≡ true
  by true e rest = let same : y ≡ x = cc e in ap p (sym same) ∙ (and_parts (p y) (list_all p ys) h).0
  by false e rest = rest e (and_parts (p y) (list_all p ys) h).1

pub found_is_told : {A : Type 0} (t : A → Bool) (xs : List A) (x : A) → find t xs ≡ Some x → t x ≡ true
found_is_told t [] x is = absurd (cc is)
found_is_told t (y ∷ ys) x is = by (t y) refl is (found_is_told t ys x) where
  by : (b : Bool) → t y ≡ b → cond b (Some y) (find t ys) ≡ Some x → (find t ys ≡ Some x → t x ≡ true) → t x ≡ true
  by true told e rest = let same : y ≡ x = cc e in ap t (sym same) ∙ told
  by false told e rest = rest e

pub nothing_found : {A : Type 0} (t : A → Bool) (xs : List A) → list_any t xs ≡ false → find t xs ≡ None
nothing_found t [] h = refl
nothing_found t (x ∷ xs) h = by (t x) (or_parts (t x) (list_any t xs) h).0 (nothing_found t xs (or_parts (t x) (list_any t xs) h).1) where
  by : (b : Bool) → b ≡ false → find t xs ≡ None → cond b (Some x) (find t xs) ≡ None
  by true e rest = absurd (false≢true (sym e))
  by false e rest = rest

pub something_found : {A : Type 0} (t : A → Bool) (xs : List A) → list_any t xs ≡ true → (x : A) × (find t xs ≡ Some x)
something_found t [] h = absurd (false≢true h)
something_found {A = A} t (x ∷ xs) h = by (t x) h (something_found t xs) where
  by : (b : Bool) → (b || list_any t xs) ≡ true → (list_any t xs ≡ true → (y : A) × (find t xs ≡ Some y)) → (y : A) × (cond b (Some x) (find t xs) ≡ Some y)
  by true e rest = (x, refl)
  by false e rest = rest e

-- no refusal holds
pub none_holds : {A E : Type 0} (t : A → Bool) (f : A → E) (xs : List A) → first_refusal (map (λ x. (t x, f x)) xs) ≡ None → list_all (λ x. not (t x)) xs ≡ true
none_holds t f [] h = refl
none_holds t f (x ∷ xs) h = by (t x) h (none_holds t f xs) where
  by : (b : Bool) → cond b (Some (f x)) (first_refusal (map (λ x. (t x, f x)) xs)) ≡ None → (first_refusal (map (λ x. (t x, f x)) xs) ≡ None → list_all (λ x. not (t x)) xs ≡ true)
      → (not b && list_all (λ x. not (t x)) xs) ≡ true
  by true e rest = absurd (cc e)
  by false e rest = rest e

swapped : (a b c : Bool) → (b && (a && c)) ≡ (a && (b && c))
swapped true b c = refl
swapped false true c = refl
swapped false false c = refl

list_all-put_by : {A : Type 0} (p : A → Bool) (name : A → Text) (x : A) (ys : List A) → list_all p (put_by name x ys) ≡ (p x && list_all p ys)
list_all-put_by p name x [] = refl
list_all-put_by p name x (y ∷ ys) = by (is_lt (name_cmp (name x) (name y))) (list_all-put_by p name x ys) where
  by : (b : Bool) → list_all p (put_by name x ys) ≡ (p x && list_all p ys) → list_all p (cond b (x ∷ y ∷ ys) (y ∷ put_by name x ys)) ≡ (p x && (p y && list_all p ys))
  by true h = refl
  by false h = ap (λ rest. p y && rest) h ∙ swapped (p x) (p y) (list_all p ys)

-- what holds of all holds of all in order, and the other way round
pub list_all-in_order_of : {A : Type 0} (p : A → Bool) (name : A → Text) (xs : List A) → list_all p (in_order_of name xs) ≡ list_all p xs
list_all-in_order_of p name [] = refl
list_all-in_order_of p name (x ∷ xs) = list_all-put_by p name x (in_order_of name xs) ∙ ap (λ rest. p x && rest) (list_all-in_order_of p name xs)
