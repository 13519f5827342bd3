-- Two characters of one text don't overlap.
use Rattle.std.proofs.Common.{◌≡◌, ℕ, zero, suc, ◌+◌, ◌<◌, ◌≤◌, Bool, true, false, ◌&&◌, ◌||◌, inl, inr, List, [], ◌∷◌, length, drop, refl, arith, leb, ltb, cond}
use Rattle.std.specs.List.{list_all}
use Rattle.std.proofs.lemmas.Bool.{ltb-true, ltb-false, leb-true, and_parts, or_cases}
use Rattle.dm_route.specs.Characters.{characters, character_length, lies_in, length_among}

-- bounds of bytes that stand behind the first
abbrev are_following : ℕ × ℕ → Bool
are_following bounds = leb 128 bounds.0 && ltb bounds.1 192

-- no first byte is one of those that stand behind it
abbrev are_apart : List (ℕ × ℕ) → Bool
are_apart [] = false
are_apart (bounds ∷ others) = (ltb bounds.1 128 || leb 192 bounds.0) && list_all are_following others

-- a byte at the front that stands behind another
abbrev Follows : List ℕ → Type 0
Follows [] = ⊥
Follows (b ∷ bs) = (128 ≤ b) × (b < 192)

pub between : (b low high : ℕ) (more : Bool) → (leb low b && leb b high && more) ≡ true → (low ≤ b) × (b ≤ high) × (more ≡ true)
between b low high more h =
    let front = and_parts (leb low b && leb b high) more h in
    let both = and_parts (leb low b) (leb b high) front.0 in
    (leb-true _ _ both.0, leb-true _ _ both.1, front.1)

behind_first : (bounds : List (ℕ × ℕ)) (bs : List ℕ) (i : ℕ) → list_all are_following bounds ≡ true → lies_in bs bounds ≡ true → i < length bounds → Follows (drop i bs)
unfolding lies_in
behind_first [] bs i all lies few = absurd (omega arith)
behind_first (q ∷ qs) [] i all lies few = absurd cc
behind_first (q ∷ qs) (b ∷ bs) zero all lies few =
    let here = between b q.0 q.1 (lies_in bs qs) lies in
    let range = and_parts (leb 128 q.0) (ltb q.1 192) (and_parts (are_following q) (list_all are_following qs) all).0 in
    (omega (arith, here.0, leb-true _ _ range.0), omega (arith, here.1, ltb-true _ _ range.1))
behind_first (q ∷ qs) (b ∷ bs) (suc i) all lies few =
    behind_first qs bs i (and_parts (are_following q) (list_all are_following qs) all).1 (between b q.0 q.1 (lies_in bs qs) lies).2 (omega arith)

no_first : (bounds : List (ℕ × ℕ)) (bs : List ℕ) → are_apart bounds ≡ true → lies_in bs bounds ≡ true → Follows bs → ⊥
unfolding lies_in
no_first [] bs apart lies follows = absurd cc
no_first (q ∷ qs) [] apart lies follows = follows
no_first (q ∷ qs) (b ∷ bs) apart lies follows =
    let here = between b q.0 q.1 (lies_in bs qs) lies in
    elim (or_cases (ltb q.1 128) (leb 192 q.0) (and_parts _ (list_all are_following qs) apart).0) as (λ _. ⊥) [
      | inl low ↦ omega (arith, here.1, follows.0, ltb-true _ _ low)
      | inr high ↦ omega (arith, here.0, follows.1, leb-true _ _ high)
    ]

none_begins : (rows : List (List (ℕ × ℕ))) (bs : List ℕ) → list_all are_apart rows ≡ true → Follows bs → length_among rows bs ≡ 0
none_begins [] bs all follows = refl
none_begins (row ∷ rows) bs all follows =
    let parts = and_parts (are_apart row) (list_all are_apart rows) all in
    by (lies_in bs row) refl parts.0 (none_begins rows bs parts.1 follows) where
      by : (t : Bool) → lies_in bs row ≡ t → are_apart row ≡ true → length_among rows bs ≡ 0 → cond t (length row) (length_among rows bs) ≡ 0
      by true lies apart others = absurd (no_first row bs apart lies follows)
      by false lies apart others = others

rest_follows : (row : List (ℕ × ℕ)) (bs : List ℕ) (i : ℕ) → are_apart row ≡ true → lies_in bs row ≡ true → suc i < length row → Follows (drop (suc i) bs)
unfolding lies_in
rest_follows [] bs i apart lies few = absurd cc
rest_follows (q ∷ qs) [] i apart lies few = absurd cc
rest_follows (q ∷ qs) (b ∷ bs) i apart lies few =
    behind_first qs bs i (and_parts _ (list_all are_following qs) apart).1 (between b q.0 q.1 (lies_in bs qs) lies).2 (omega arith)

all_follow : (rows : List (List (ℕ × ℕ))) (bs : List ℕ) (i : ℕ) → list_all are_apart rows ≡ true → suc i < length_among rows bs → Follows (drop (suc i) bs)
all_follow [] bs i all few = absurd (omega arith)
all_follow (row ∷ rows) bs i all few =
    let parts = and_parts (are_apart row) (list_all are_apart rows) all in
    by (lies_in bs row) refl parts.0 few (all_follow rows bs i parts.1) where
      by : (t : Bool) → lies_in bs row ≡ t → are_apart row ≡ true → suc i < cond t (length row) (length_among rows bs)
          → (suc i < length_among rows bs → Follows (drop (suc i) bs)) → Follows (drop (suc i) bs)
      by true lies apart h others = rest_follows row bs i apart lies h
      by false lies apart h others = others h

-- a character at a later place begins behind the one at the front
pub characters_apart : (k : ℕ) (xs : List ℕ) → 0 < character_length (drop k xs) → character_length xs ≤ k + character_length (drop k xs)
unfolding character_length
characters_apart zero xs there = omega arith
characters_apart (suc i) xs there = by (ltb (suc i) (length_among characters xs)) refl where
  by : (t : Bool) → ltb (suc i) (length_among characters xs) ≡ t → length_among characters xs ≤ suc i + length_among characters (drop (suc i) xs)
  by true less =
      let follows = all_follow characters xs i refl (ltb-true _ _ less) in
      let none = none_begins characters (drop (suc i) xs) refl follows in
      absurd (omega (arith, none, there))
  by false more = omega (arith, ltb-false _ _ more)
