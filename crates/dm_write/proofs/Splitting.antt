-- Lists that are split at the elements that pass a test, and what is found in lists that stand behind one another.
use Rattle.std.proofs.Common.{◌≡◌, ◌||◌, ◌+◌, suc, Bool, true, false, List, [], ◌∷◌, ◌++◌, map, None, refl, sym, ap, ◌∙◌, arith}
use Rattle.std.specs.Option.{option_map}
use Rattle.std.specs.List.{list_any, list_all, find, filter, before_first, position_or_len}
use Rattle.std.proofs.lemmas.Bool.{and_parts}
use Rattle.dm_syntax.specs.Pieces.{parts}

-- What none of a list passes.

pub either_false : (a b : Bool) → (a || b) ≡ false → (a ≡ false) × (b ≡ false)
either_false true b h = absurd cc
either_false false b h = (refl, h)

before_more : {A : Type 0} (test : A → Bool) (x : A) (xs : List A) → test x ≡ false → before_first test (x ∷ xs) ≡ x ∷ before_first test xs
before_more test x xs e = let more : 1 + position_or_len test xs ≡ suc (position_or_len test xs) = omega arith in rw (e, more) refl

before_none : {A : Type 0} (test : A → Bool) (x : A) (xs : List A) → test x ≡ true → before_first test (x ∷ xs) ≡ []
before_none test x xs e = rw e refl

pub before_all : {A : Type 0} (test : A → Bool) (xs : List A) → list_any test xs ≡ false → before_first test xs ≡ xs
before_all test [] none = refl
before_all test (x ∷ xs) none =
    let both = either_false (test x) (list_any test xs) none in
    before_more test x xs both.0 ∙ ap (λ z. x ∷ z) (before_all test xs both.1)

pub before_at : {A : Type 0} (test : A → Bool) (xs : List A) (y : A) (ys : List A) → list_any test xs ≡ false → test y ≡ true → before_first test (xs ++ y ∷ ys) ≡ xs
before_at test [] y ys none passes = before_none test y ys passes
before_at test (x ∷ xs) y ys none passes =
    let both = either_false (test x) (list_any test xs) none in
    before_more test x (xs ++ y ∷ ys) both.0 ∙ ap (λ z. x ∷ z) (before_at test xs y ys both.1 passes)

pub parts_skip : {A : Type 0} (test : A → Bool) (xs ys : List A) → list_any test xs ≡ false → parts test (xs ++ ys) ≡ parts test ys
parts_skip test [] ys none = refl
parts_skip test (x ∷ xs) ys none =
    let both = either_false (test x) (list_any test xs) none in
    rw both.0 (parts_skip test xs ys both.1)

pub parts_none : {A : Type 0} (test : A → Bool) (xs : List A) → list_any test xs ≡ false → parts test xs ≡ []
parts_none test [] none = refl
parts_none test (x ∷ xs) none =
    let both = either_false (test x) (list_any test xs) none in
    rw both.0 (parts_none test xs both.1)

-- a part, and the next behind it
pub part_first : {A : Type 0} (test : A → Bool) (x : A) (xs : List A) (y : A) (ys : List A) → test x ≡ true → list_any test xs ≡ false → test y ≡ true → parts test (x ∷ xs ++ y ∷ ys) ≡ (x ∷ xs) ∷ parts test (y ∷ ys)
part_first test x xs y ys begins none passes =
    let front = before_at test xs y ys none passes in
    let rest = parts_skip test xs (y ∷ ys) none in
    rw (begins, front, rest) refl

pub part_last : {A : Type 0} (test : A → Bool) (x : A) (xs : List A) → test x ≡ true → list_any test xs ≡ false → parts test (x ∷ xs) ≡ (x ∷ xs) ∷ []
part_last test x xs begins none =
    let front = before_all test xs none in
    let rest = parts_none test xs none in
    rw (begins, front, rest) refl

-- Elements that are seen as others.

before_map : {A B : Type 0} (f : A → B) (test : B → Bool) (xs : List A) → map f (before_first (λ x. test (f x)) xs) ≡ before_first test (map f xs)
before_map f test [] = refl
before_map f test (x ∷ xs) = by (test (f x)) refl (before_map f test xs) where
  by : (b : Bool) → test (f x) ≡ b → map f (before_first (λ x. test (f x)) xs) ≡ before_first test (map f xs) → map f (before_first (λ x. test (f x)) (x ∷ xs)) ≡ before_first test (map f (x ∷ xs))
  by true e rest = ap (map f) (before_none (λ x. test (f x)) x xs e) ∙ sym (before_none test (f x) (map f xs) e)
  by false e rest = ap (map f) (before_more (λ x. test (f x)) x xs e) ∙ ap (λ z. f x ∷ z) rest ∙ sym (before_more test (f x) (map f xs) e)

pub parts_map : {A B : Type 0} (f : A → B) (test : B → Bool) (xs : List A) → map (map f) (parts (λ x. test (f x)) xs) ≡ parts test (map f xs)
parts_map f test [] = refl
parts_map f test (x ∷ xs) = by (test (f x)) refl (parts_map f test xs) where
  by : (b : Bool) → test (f x) ≡ b → map (map f) (parts (λ x. test (f x)) xs) ≡ parts test (map f xs) → map (map f) (parts (λ x. test (f x)) (x ∷ xs)) ≡ parts test (map f (x ∷ xs))
  by true e rest = rw e (ap (λ z. (f x ∷ z) ∷ map (map f) (parts (λ x. test (f x)) xs)) (before_map f test xs) ∙ ap (λ z. (f x ∷ before_first test (map f xs)) ∷ z) rest)
  by false e rest = rw e rest

pub find_map : {A B : Type 0} (f : A → B) (test : B → Bool) (xs : List A) → option_map f (find (λ x. test (f x)) xs) ≡ find test (map f xs)
find_map f test [] = refl
find_map f test (x ∷ xs) = by (test (f x)) refl (find_map f test xs) where
  by : (b : Bool) → test (f x) ≡ b → option_map f (find (λ x. test (f x)) xs) ≡ find test (map f xs) → option_map f (find (λ x. test (f x)) (x ∷ xs)) ≡ find test (map f (x ∷ xs))
  by true e rest = rw e refl
  by false e rest = rw e rest

pub any_map : {A B : Type 0} (f : A → B) (test : B → Bool) (xs : List A) → list_any (λ x. test (f x)) xs ≡ list_any test (map f xs)
any_map f test [] = refl
any_map f test (x ∷ xs) = ap (λ b. test (f x) || b) (any_map f test xs)

pub filter_map : {A B : Type 0} (f : A → B) (test : B → Bool) (xs : List A) → map f (filter (λ x. test (f x)) xs) ≡ filter test (map f xs)
filter_map f test [] = refl
filter_map f test (x ∷ xs) = by (test (f x)) refl (filter_map f test xs) where
  by : (b : Bool) → test (f x) ≡ b → map f (filter (λ x. test (f x)) xs) ≡ filter test (map f xs) → map f (filter (λ x. test (f x)) (x ∷ xs)) ≡ filter test (map f (x ∷ xs))
  by true e rest = rw e (ap (λ z. f x ∷ z) rest)
  by false e rest = rw e rest

-- Lists behind one another.

pub any_both : {A : Type 0} (test : A → Bool) (xs ys : List A) → list_any test (xs ++ ys) ≡ (list_any test xs || list_any test ys)
any_both test [] ys = refl
any_both test (x ∷ xs) ys = by (test x) (any_both test xs ys) where
  by : (b : Bool) → list_any test (xs ++ ys) ≡ (list_any test xs || list_any test ys) → (b || list_any test (xs ++ ys)) ≡ ((b || list_any test xs) || list_any test ys)
  by true e = refl
  by false e = e

pub all_both : {A : Type 0} (test : A → Bool) (xs ys : List A) → list_all test xs ≡ true → list_all test ys ≡ true → list_all test (xs ++ ys) ≡ true
all_both test [] ys p q = q
all_both test (x ∷ xs) ys p q =
    let parts = and_parts (test x) (list_all test xs) p in
    rw parts.0 (all_both test xs ys parts.1 q)

pub find_both : {A : Type 0} (test : A → Bool) (xs ys : List A) → list_any test xs ≡ false → find test (xs ++ ys) ≡ find test ys
find_both test [] ys none = refl
find_both test (x ∷ xs) ys none =
    let both = either_false (test x) (list_any test xs) none in
    rw both.0 (find_both test xs ys both.1)

pub find_none : {A : Type 0} (test : A → Bool) (xs : List A) → list_any test xs ≡ false → find test xs ≡ None
find_none test [] none = refl
find_none test (x ∷ xs) none =
    let both = either_false (test x) (list_any test xs) none in
    rw both.0 (find_none test xs both.1)

pub filter_both : {A : Type 0} (test : A → Bool) (xs ys : List A) → filter test (xs ++ ys) ≡ filter test xs ++ filter test ys
filter_both test [] ys = refl
filter_both test (x ∷ xs) ys = by (test x) refl (filter_both test xs ys) where
  by : (b : Bool) → test x ≡ b → filter test (xs ++ ys) ≡ filter test xs ++ filter test ys → filter test (x ∷ (xs ++ ys)) ≡ filter test (x ∷ xs) ++ filter test ys
  by true e rest = rw e (ap (λ z. x ∷ z) rest)
  by false e rest = rw e rest
