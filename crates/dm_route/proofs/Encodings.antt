-- Each character of UTF-8 is taken whole, as std encodes it.
use Rattle.std.proofs.Common.{◌≡◌, ℕ, suc, ◌+◌, ◌/◌, ◌%◌, ◌<◌, ◌≤◌, Bool, true, false, ◌&&◌, ◌⊎◌, inl, inr, List, [], ◌∷◌, ◌++◌, length, drop, refl, ◌∙◌, arith, leb}
use Rattle.std.specs.Char.{encode_utf8, len_utf8, IsScalar}
use lib.Utf8.{scalar_cases}
use Rattle.std.proofs.lemmas.Bool.{lt-ltb, le-ltb, le-leb, lt-leb, cases_lt}
use Rattle.dm_route.specs.Characters.{characters, character_length, following, lies_in, length_among}

false_behind : (x : Bool) → (x && false) ≡ false
false_behind true = refl
false_behind false = refl

-- a row that begins with other bytes is passed over
skip : (b low high : ℕ) (bs : List ℕ) (others : List (ℕ × ℕ)) (rows : List (List (ℕ × ℕ))) → (b < low) ⊎ (high < b)
    → length_among (((low, high) ∷ others) ∷ rows) (b ∷ bs) ≡ length_among rows (b ∷ bs)
unfolding lies_in
skip b low high bs others rows (inl h) = rw (lt-leb low b h) refl
skip b low high bs others rows (inr h) = rw (lt-leb b high h, false_behind (leb low b)) refl

-- a byte between its bounds
one : (b low high : ℕ) (bs : List ℕ) (others : List (ℕ × ℕ)) → low ≤ b → b ≤ high → lies_in bs others ≡ true → lies_in (b ∷ bs) ((low, high) ∷ others) ≡ true
unfolding lies_in
one b low high bs others above below rest = rw (le-leb low b above, le-leb b high below) rest

none : (bs : List ℕ) → lies_in bs [] ≡ true
unfolding lies_in
none bs = refl

-- the first row in which the bytes lie has the length
hit : (b low high : ℕ) (bs : List ℕ) (others : List (ℕ × ℕ)) (rows : List (List (ℕ × ℕ))) → low ≤ b → b ≤ high → lies_in bs others ≡ true
    → length_among (((low, high) ∷ others) ∷ rows) (b ∷ bs) ≡ suc (length others)
hit b low high bs others rows above below rest = rw (one b low high bs others above below rest) refl

abbrev pub IsNext : ℕ → Type 0
IsNext b = (128 ≤ b) × (b < 192)

next : (b : ℕ) (bs : List ℕ) (others : List (ℕ × ℕ)) → IsNext b → lies_in bs others ≡ true → lies_in (b ∷ bs) (following ∷ others) ≡ true
next b bs others range rest = one b 128 191 bs others range.0 (omega arith) rest

-- one, two or three bytes behind the first, between 0x80 and 0xBF
abbrev pub one_next : List (ℕ × ℕ)
one_next = following ∷ []

abbrev pub two_next : List (ℕ × ℕ)
two_next = following ∷ following ∷ []

abbrev three_next : List (ℕ × ℕ)
three_next = following ∷ following ∷ following ∷ []

-- the rows from a place on
abbrev from : ℕ → List (List (ℕ × ℕ))
from place = drop place characters

of_one : (b : ℕ) (bs : List ℕ) → b < 128 → length_among characters (b ∷ bs) ≡ 1
of_one b bs h = hit b 0 127 bs [] (from 1) (omega arith) (omega arith) (none bs)

of_two : (a b : ℕ) (bs : List ℕ) → 194 ≤ a → a < 224 → IsNext b → length_among characters (a ∷ b ∷ bs) ≡ 2
of_two a b bs low high n =
    skip a 0 127 (b ∷ bs) [] (from 1) (inr (omega arith))
    ∙ hit a 194 223 (b ∷ bs) one_next (from 2) low (omega arith) (next b bs [] n (none bs))

above_two : (a : ℕ) (bs : List ℕ) → 224 ≤ a → length_among characters (a ∷ bs) ≡ length_among (from 2) (a ∷ bs)
above_two a bs h = skip a 0 127 bs [] (from 1) (inr (omega arith)) ∙ skip a 194 223 bs one_next (from 2) (inr (omega arith))

above_three : (a : ℕ) (bs : List ℕ) → 240 ≤ a → length_among characters (a ∷ bs) ≡ length_among (from 6) (a ∷ bs)
above_three a bs h =
    above_two a bs (omega arith)
    ∙ skip a 224 224 bs ((160, 191) ∷ one_next) (from 3) (inr (omega arith)) ∙ skip a 225 236 bs two_next (from 4) (inr (omega arith))
    ∙ skip a 237 237 bs ((128, 159) ∷ one_next) (from 5) (inr (omega arith)) ∙ skip a 238 239 bs two_next (from 6) (inr (omega arith))

of_three : (a b c : ℕ) (bs : List ℕ) → 224 ≤ a → a < 240 → IsNext b → IsNext c → (a ≤ 224 → 160 ≤ b) → (a ≡ 237 → b < 160) → length_among characters (a ∷ b ∷ c ∷ bs) ≡ 3
of_three a b c bs low high second third least most = above_two a (b ∷ c ∷ bs) low ∙ e0 (cases_lt 224 a) where
  last : lies_in (c ∷ bs) one_next ≡ true
  last = next c bs [] third (none bs)

  both : lies_in (b ∷ c ∷ bs) two_next ≡ true
  both = next b (c ∷ bs) one_next second (next c bs [] third (none bs))

  ee : 238 ≤ a → length_among (from 5) (a ∷ b ∷ c ∷ bs) ≡ 3
  ee h = hit a 238 239 (b ∷ c ∷ bs) two_next (from 6) h (omega arith) both

  ed : (237 < a) ⊎ (a ≤ 237) → 237 ≤ a → length_among (from 4) (a ∷ b ∷ c ∷ bs) ≡ 3
  ed (inl h) above = skip a 237 237 (b ∷ c ∷ bs) ((128, 159) ∷ one_next) (from 5) (inr h) ∙ ee h
  ed (inr h) above =
      let same : a ≡ 237 = omega arith in
      let below : b < 160 = most same in
      hit a 237 237 (b ∷ c ∷ bs) ((128, 159) ∷ one_next) (from 5) above h (one b 128 159 (c ∷ bs) one_next second.0 (omega arith) last)

  e1 : (236 < a) ⊎ (a ≤ 236) → 225 ≤ a → length_among (from 3) (a ∷ b ∷ c ∷ bs) ≡ 3
  e1 (inl h) above = skip a 225 236 (b ∷ c ∷ bs) two_next (from 4) (inr h) ∙ ed (cases_lt 237 a) h
  e1 (inr h) above = hit a 225 236 (b ∷ c ∷ bs) two_next (from 4) above h both

  e0 : (224 < a) ⊎ (a ≤ 224) → length_among (from 2) (a ∷ b ∷ c ∷ bs) ≡ 3
  e0 (inl h) = skip a 224 224 (b ∷ c ∷ bs) ((160, 191) ∷ one_next) (from 3) (inr h) ∙ e1 (cases_lt 236 a) h
  e0 (inr h) = hit a 224 224 (b ∷ c ∷ bs) ((160, 191) ∷ one_next) (from 3) low h (one b 160 191 (c ∷ bs) one_next (least h) (omega arith) last)

of_four : (a b c d : ℕ) (bs : List ℕ) → 240 ≤ a → a < 245 → IsNext b → IsNext c → IsNext d → (a ≤ 240 → 144 ≤ b) → (244 ≤ a → b < 144) → length_among characters (a ∷ b ∷ c ∷ d ∷ bs) ≡ 4
of_four a b c d bs low high second third fourth least most = above_three a (b ∷ c ∷ d ∷ bs) low ∙ f0 (cases_lt 240 a) where
  two : lies_in (c ∷ d ∷ bs) two_next ≡ true
  two = next c (d ∷ bs) one_next third (next d bs [] fourth (none bs))

  f4 : 244 ≤ a → length_among (from 8) (a ∷ b ∷ c ∷ d ∷ bs) ≡ 4
  f4 h =
      let below : b < 144 = most h in
      hit a 244 244 (b ∷ c ∷ d ∷ bs) ((128, 143) ∷ two_next) (from 9) h (omega arith) (one b 128 143 (c ∷ d ∷ bs) two_next second.0 (omega arith) two)

  f1 : (243 < a) ⊎ (a ≤ 243) → 241 ≤ a → length_among (from 7) (a ∷ b ∷ c ∷ d ∷ bs) ≡ 4
  f1 (inl h) above = skip a 241 243 (b ∷ c ∷ d ∷ bs) three_next (from 8) (inr h) ∙ f4 h
  f1 (inr h) above = hit a 241 243 (b ∷ c ∷ d ∷ bs) three_next (from 8) above h (next b (c ∷ d ∷ bs) two_next second two)

  f0 : (240 < a) ⊎ (a ≤ 240) → length_among (from 6) (a ∷ b ∷ c ∷ d ∷ bs) ≡ 4
  f0 (inl h) = skip a 240 240 (b ∷ c ∷ d ∷ bs) ((144, 191) ∷ two_next) (from 7) (inr h) ∙ f1 (cases_lt 243 a) h
  f0 (inr h) = hit a 240 240 (b ∷ c ∷ d ∷ bs) ((144, 191) ∷ two_next) (from 7) low h (one b 144 191 (c ∷ d ∷ bs) two_next (least h) (omega arith) two)

-- no surrogate, and below 0x110000
abbrev IsCode : ℕ → Type 0
IsCode c = (c < 55296) ⊎ ((57344 ≤ c) × (c < 1114112))

by_size : (c : ℕ) (rest : List ℕ) → (c < 128) ⊎ (128 ≤ c) → (c < 2048) ⊎ (2048 ≤ c) → (c < 65536) ⊎ (65536 ≤ c) → IsCode c → length_among characters (encode_utf8 c ++ rest) ≡ len_utf8 c
unfolding encode_utf8
by_size c rest (inl h) y z code = rw (lt-ltb c 128 h) (of_one c rest h)
by_size c rest (inr g) (inl h) z code =
    rw (le-ltb c 128 g, lt-ltb c 2048 h) (of_two (192 + c / 64) (128 + c % 64) rest (omega arith) (omega arith) (omega arith, omega arith))
by_size c rest (inr f) (inr g) (inl h) code =
    rw (le-ltb c 128 f, le-ltb c 2048 g, lt-ltb c 65536 h)
    (of_three (224 + c / 4096) (128 + c / 64 % 64) (128 + c % 64) rest (omega arith) (omega arith) (omega arith, omega arith) (omega arith, omega arith) (λ e. omega arith) (λ e. omega arith))
by_size c rest (inr f) (inr g) (inr h) code =
    rw (le-ltb c 128 f, le-ltb c 2048 g, le-ltb c 65536 h)
    (of_four (240 + c / 262144) (128 + c / 4096 % 64) (128 + c / 64 % 64) (128 + c % 64) rest (omega arith) (omega arith) (omega arith, omega arith) (omega arith, omega arith) (omega arith, omega arith) (λ e. omega arith) (λ e. omega arith))

-- `?` takes each character whole, whatever stands behind it
pub character_taken : (c : ℕ) (rest : List ℕ) → IsScalar c → character_length (encode_utf8 c ++ rest) ≡ len_utf8 c
unfolding character_length
character_taken c rest scalar = by_size c rest (cases_lt c 128) (cases_lt c 2048) (cases_lt c 65536) (scalar_cases c scalar)
