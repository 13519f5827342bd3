-- What readers take from the front of a text: words, and values in turn.
use Rattle.std.proofs.Common.{◌≡◌, ℕ, zero, suc, ◌<◌, ◌≤◌, nat_eq, Bool, true, false, List, [], ◌∷◌, ◌++◌, length, map, Option, Some, None, refl, sym, ap, ◌∙◌, subst, append_assoc, arith, eq-eqb, take_at, drop_at}
use Rattle.std.specs.List.{flat_map, list_all, starts_with}
use Rattle.std.specs.Cmp.Lexicographic.{pointwise}
use Rattle.std.proofs.lemmas.Bool.{and_parts}
use Rattle.std.proofs.lemmas.List.{length-append}
use Rattle.dm_stmt_read.specs.Readers.{Reader, and_then, just, before, many, further, accept}

-- Words.

pub same_bytes : (word : List ℕ) → pointwise nat_eq word word ≡ true
same_bytes [] = refl
same_bytes (b ∷ word) = rw (eq-eqb b b refl) (same_bytes word)

pub takes_word : (word behind : List ℕ) → accept word (word ++ behind) ≡ Some (true, behind)
unfolding accept
takes_word word behind =
    let stands : starts_with nat_eq (word ++ behind) word ≡ true = ap (λ xs. pointwise nat_eq word xs) (take_at word behind (length word) refl) ∙ same_bytes word in
    rw (stands, drop_at word behind (length word) refl) refl

pub passes_word : (word left : List ℕ) → starts_with nat_eq left word ≡ false → accept word left ≡ Some (false, left)
unfolding accept
passes_word word left other = rw other refl

-- Values in turn.

-- a reader takes each value that passes a test, before what may follow
pub record Takes {A : Type 0} (next : Reader (Option A)) (piece : A → List ℕ) (test : A → Bool) (Follows : List ℕ → Type 0) (end after : List ℕ) : Type 0 where
  pub ends : next end ≡ Some (None, after)
  pub end_follows : Follows end
  pub piece_follows : (x : A) (behind : List ℕ) → Follows (piece x ++ behind)
  pub some : (x : A) → 1 ≤ length (piece x)
  pub takes : (x : A) (behind : List ℕ) → test x ≡ true → Follows behind → next (piece x ++ behind) ≡ Some (Some x, behind)

rest_follows : {A : Type 0} (next : Reader (Option A)) (piece : A → List ℕ) (test : A → Bool) (Follows : List ℕ → Type 0) (end after : List ℕ) → Takes next piece test Follows end after → (xs : List A) → Follows (flat_map piece xs ++ end)
rest_follows next piece test Follows end after t [] = t.end_follows
rest_follows next piece test Follows end after t (x ∷ xs) =
    subst Follows (sym (append_assoc (piece x) (flat_map piece xs) end)) (t.piece_follows x (flat_map piece xs ++ end))

takes_many : {A : Type 0} (next : Reader (Option A)) (piece : A → List ℕ) (test : A → Bool) (Follows : List ℕ → Type 0) (end after : List ℕ) → Takes next piece test Follows end after
    → (xs : List A) → list_all test xs ≡ true → (most : ℕ) → length xs < most → many next most (flat_map piece xs ++ end) ≡ Some (xs, after)
unfolding many
takes_many next piece test Follows end after t xs all zero room = absurd (omega (arith, room))
takes_many next piece test Follows end after t [] all (suc most) room = rw (t.ends) refl
takes_many next piece test Follows end after t (x ∷ xs) all (suc most) room =
    let parts = and_parts (test x) (list_all test xs) all in
    let rest = takes_many next piece test Follows end after t xs parts.1 most (omega (arith, room)) in
    let first : next ((piece x ++ flat_map piece xs) ++ end) ≡ Some (Some x, flat_map piece xs ++ end) =
    ap next (append_assoc (piece x) (flat_map piece xs) end) ∙ t.takes x (flat_map piece xs ++ end) parts.0 (rest_follows next piece test Follows end after t xs) in
    ap (λ o. and_then o (before (many next most))) first ∙ ap (λ o. and_then o (λ ys. just (x ∷ ys))) rest

no_more_than : {A : Type 0} (piece : A → List ℕ) → ((x : A) → 1 ≤ length (piece x)) → (xs : List A) → length xs ≤ length (flat_map piece xs)
no_more_than piece some [] = omega arith
no_more_than piece some (x ∷ xs) =
    let one = some x in
    let rest = no_more_than piece some xs in
    let both = length-append (piece x) (flat_map piece xs) in
    omega (arith, one, rest, both)

-- all values, behind those that were read before
pub takes_further : {A : Type 0} (next : Reader (Option A)) (piece : A → List ℕ) (test : A → Bool) (Follows : List ℕ → Type 0) (end after : List ℕ) → Takes next piece test Follows end after → 1 ≤ length end
    → (made xs : List A) → list_all test xs ≡ true → further next made (flat_map piece xs ++ end) ≡ Some (made ++ xs, after)
unfolding further
takes_further next piece test Follows end after t last made xs all =
    let few = no_more_than piece (t.some) xs in
    let both = length-append (flat_map piece xs) end in
    ap (λ o. and_then o (λ ys. just (made ++ ys))) (takes_many next piece test Follows end after t xs all (length (flat_map piece xs ++ end)) (omega (arith, few, both, last)))

pub mapped : {A B : Type 0} (piece : B → List ℕ) (f : A → B) (xs : List A) → flat_map piece (map f xs) ≡ flat_map (λ x. piece (f x)) xs
mapped piece f [] = refl
mapped piece f (x ∷ xs) = ap (λ ys. piece (f x) ++ ys) (mapped piece f xs)
