-- Where a character is taken, std encodes one so.
use Rattle.std.proofs.Common.{◌≡◌, ℕ, ◌+◌, ◌-◌, ◌*◌, ◌/◌, ◌%◌, ◌<◌, ◌≤◌, Bool, true, false, ◌⊎◌, inl, inr, List, [], ◌∷◌, ◌++◌, length, refl, arith, cond}
use Rattle.std.specs.Char.{encode_utf8, IsScalar}
use Rattle.std.proofs.lemmas.Bool.{lt-ltb, le-ltb, le-leb, cases_lt}
use Rattle.dm_route.specs.Characters.{characters, character_length, lies_in, length_among}
use Rattle.dm_route.proofs.Overlaps.{between}
use Rattle.dm_route.proofs.Encodings.{IsNext, one_next, two_next}

-- a character stands at the front
abbrev pub IsChar : List ℕ → Type 0
IsChar bs = (c : ℕ) × (rest : List ℕ) × IsScalar c × (bs ≡ encode_utf8 c ++ rest)

low_scalar : (c : ℕ) → c < 55296 → IsScalar c
low_scalar c h = rw (lt-ltb c 55296 h) refl

high_scalar : (c : ℕ) → 57344 ≤ c → c < 1114112 → IsScalar c
high_scalar c low high = rw (le-ltb c 55296 (omega arith), le-leb 57344 c low, lt-ltb c 1114112 high) refl

char_one : (a : ℕ) (rest : List ℕ) → a < 128 → IsChar (a ∷ rest)
unfolding encode_utf8
char_one a rest h = (a, rest, low_scalar a (omega arith), rw (lt-ltb a 128 h) refl)

char_two : (a b : ℕ) (rest : List ℕ) → 194 ≤ a → a < 224 → IsNext b → IsChar (a ∷ b ∷ rest)
unfolding encode_utf8
char_two a b rest low high n =
    let c : ℕ = (a - 192) * 64 + (b - 128) in
    let some : 128 ≤ c = omega arith in
    let few : c < 2048 = omega arith in
    let first : 192 + c / 64 ≡ a = omega arith in
    let second : 128 + c % 64 ≡ b = omega arith in
    (c, rest, low_scalar c (omega arith), rw (le-ltb c 128 some, lt-ltb c 2048 few, first, second) refl)

-- the first two bytes of three
record IsThree (a b : ℕ) : Type 0 where
  pub low : 224 ≤ a
  pub high : a < 240
  pub after : 128 ≤ b
  pub before : b < 192
  pub least : a ≤ 224 → 160 ≤ b
  pub most : a ≡ 237 → b < 160

scalar_of_three : (c : ℕ) → (c < 55296) ⊎ (57344 ≤ c) → c < 65536 → IsScalar c
scalar_of_three c (inl h) few = low_scalar c h
scalar_of_three c (inr h) few = high_scalar c h (omega arith)

abbrev code_of_three : ℕ → ℕ → ℕ → ℕ
code_of_three a b d = (a - 224) * 4096 + (b - 128) * 64 + (d - 128)

least_of_three : (a b d : ℕ) → IsThree a b → (224 < a) ⊎ (a ≤ 224) → 2048 ≤ code_of_three a b d
least_of_three a b d t (inl h) = omega arith
least_of_three a b d t (inr h) = omega (arith, t.least h)

range_of_three : (a b d : ℕ) → IsThree a b → IsNext d → (236 < a) ⊎ (a ≤ 236) → (237 < a) ⊎ (a ≤ 237) → (code_of_three a b d < 55296) ⊎ (57344 ≤ code_of_three a b d)
range_of_three a b d t n (inr h) y = inl (omega (arith, t.before))
range_of_three a b d t n (inl g) (inl h) = inr (omega arith)
range_of_three a b d t n (inl g) (inr h) = let e : a ≡ 237 = omega arith in inl (omega (arith, t.most e))

char_three : (a b d : ℕ) (rest : List ℕ) → IsThree a b → IsNext d → IsChar (a ∷ b ∷ d ∷ rest)
unfolding encode_utf8
char_three a b d rest t n =
    let c : ℕ = code_of_three a b d in
    let some : 2048 ≤ c = least_of_three a b d t (cases_lt 224 a) in
    let few : c < 65536 = omega (arith, t.low, t.high, t.after, t.before) in
    let first : 224 + c / 4096 ≡ a = omega (arith, t.low, t.high, t.after, t.before) in
    let second : 128 + c / 64 % 64 ≡ b = omega (arith, t.low, t.high, t.after, t.before) in
    let third : 128 + c % 64 ≡ d = omega (arith, t.low, t.high, t.after, t.before) in (
      c,
      rest,
      scalar_of_three c (range_of_three a b d t n (cases_lt 236 a) (cases_lt 237 a)) few,
      rw (le-ltb c 128 (omega arith), le-ltb c 2048 some, lt-ltb c 65536 few, first, second, third) refl,
    )

-- the first two bytes of four
record IsFour (a b : ℕ) : Type 0 where
  pub low : 240 ≤ a
  pub high : a < 245
  pub after : 128 ≤ b
  pub before : b < 192
  pub least : a ≤ 240 → 144 ≤ b
  pub most : 244 ≤ a → b < 144

abbrev code_of_four : ℕ → ℕ → ℕ → ℕ → ℕ
code_of_four a b d e = (a - 240) * 262144 + (b - 128) * 4096 + (d - 128) * 64 + (e - 128)

least_of_four : (a b d e : ℕ) → IsFour a b → (240 < a) ⊎ (a ≤ 240) → 65536 ≤ code_of_four a b d e
least_of_four a b d e t (inl h) = omega arith
least_of_four a b d e t (inr h) = omega (arith, t.least h)

most_of_four : (a b d e : ℕ) → IsFour a b → IsNext d → IsNext e → (243 < a) ⊎ (a ≤ 243) → code_of_four a b d e < 1114112
most_of_four a b d e t n m (inl h) = omega (arith, t.high, t.most h)
most_of_four a b d e t n m (inr h) = omega (arith, t.before)

char_four : (a b d e : ℕ) (rest : List ℕ) → IsFour a b → IsNext d → IsNext e → IsChar (a ∷ b ∷ d ∷ e ∷ rest)
unfolding encode_utf8
char_four a b d e rest t n m =
    let c : ℕ = code_of_four a b d e in
    let some : 65536 ≤ c = least_of_four a b d e t (cases_lt 240 a) in
    let few : c < 1114112 = most_of_four a b d e t n m (cases_lt 243 a) in
    let first : 240 + c / 262144 ≡ a = omega (arith, t.low, t.high, t.after, t.before) in
    let second : 128 + c / 4096 % 64 ≡ b = omega (arith, t.low, t.high, t.after, t.before) in
    let third : 128 + c / 64 % 64 ≡ d = omega (arith, t.low, t.high, t.after, t.before) in
    let fourth : 128 + c % 64 ≡ e = omega (arith, t.low, t.high, t.after, t.before) in (
      c,
      rest,
      high_scalar c (omega arith) few,
      rw (le-ltb c 128 (omega arith), le-ltb c 2048 (omega arith), le-ltb c 65536 some, first, second, third, fourth) refl,
    )

-- From rows to bytes.

-- what lies in the row is a character
abbrev Decodes : List (ℕ × ℕ) → Type 0
Decodes row = (bs : List ℕ) → lies_in bs row ≡ true → IsChar bs

one_byte : Decodes ((0, 127) ∷ [])
unfolding lies_in
one_byte [] h = absurd cc
one_byte (a ∷ rest) h = let first = between a 0 127 (lies_in rest []) h in char_one a rest (omega (arith, first.1))

two_bytes : Decodes ((194, 223) ∷ one_next)
unfolding lies_in
two_bytes [] h = absurd cc
two_bytes (a ∷ []) h = let first = between a 194 223 (lies_in [] one_next) h in absurd (let wrong : false ≡ true = first.2 in cc)
two_bytes (a ∷ b ∷ rest) h =
    let first = between a 194 223 (lies_in (b ∷ rest) one_next) h in
    let second = between b 128 191 (lies_in rest []) first.2 in
    char_two a b rest first.0 (omega (arith, first.1)) (second.0, omega (arith, second.1))

three_bytes : (low high least most : ℕ) → ((a b : ℕ) → low ≤ a → a ≤ high → least ≤ b → b ≤ most → IsThree a b) → Decodes ((low, high) ∷ (least, most) ∷ one_next)
unfolding lies_in
three_bytes low high least most is [] h = absurd cc
three_bytes low high least most is (a ∷ []) h =
    let first = between a low high false h in
    absurd (let wrong : false ≡ true = first.2 in cc)
three_bytes low high least most is (a ∷ b ∷ []) h =
    let first = between a low high (lies_in (b ∷ []) ((least, most) ∷ one_next)) h in
    let second = between b least most false first.2 in
    absurd (let wrong : false ≡ true = second.2 in cc)
three_bytes low high least most is (a ∷ b ∷ d ∷ rest) h =
    let first = between a low high (lies_in (b ∷ d ∷ rest) ((least, most) ∷ one_next)) h in
    let second = between b least most (lies_in (d ∷ rest) one_next) first.2 in
    let third = between d 128 191 (lies_in rest []) second.2 in
    char_three a b d rest (is a b first.0 first.1 second.0 second.1) (third.0, omega (arith, third.1))

four_bytes : (low high least most : ℕ) → ((a b : ℕ) → low ≤ a → a ≤ high → least ≤ b → b ≤ most → IsFour a b) → Decodes ((low, high) ∷ (least, most) ∷ two_next)
unfolding lies_in
four_bytes low high least most is [] h = absurd cc
four_bytes low high least most is (a ∷ []) h =
    let first = between a low high false h in
    absurd (let wrong : false ≡ true = first.2 in cc)
four_bytes low high least most is (a ∷ b ∷ []) h =
    let first = between a low high (lies_in (b ∷ []) ((least, most) ∷ two_next)) h in
    let second = between b least most false first.2 in
    absurd (let wrong : false ≡ true = second.2 in cc)
four_bytes low high least most is (a ∷ b ∷ d ∷ []) h =
    let first = between a low high (lies_in (b ∷ d ∷ []) ((least, most) ∷ two_next)) h in
    let second = between b least most (lies_in (d ∷ []) two_next) first.2 in
    let third = between d 128 191 false second.2 in
    absurd (let wrong : false ≡ true = third.2 in cc)
four_bytes low high least most is (a ∷ b ∷ d ∷ e ∷ rest) h =
    let first = between a low high (lies_in (b ∷ d ∷ e ∷ rest) ((least, most) ∷ two_next)) h in
    let second = between b least most (lies_in (d ∷ e ∷ rest) two_next) first.2 in
    let third = between d 128 191 (lies_in (e ∷ rest) one_next) second.2 in
    let fourth = between e 128 191 (lies_in rest []) third.2 in
    char_four a b d e rest (is a b first.0 first.1 second.0 second.1) (third.0, omega (arith, third.1)) (fourth.0, omega (arith, fourth.1))

is_three : (a b : ℕ) → 224 ≤ a → a < 240 → 128 ≤ b → b < 192 → (a ≤ 224 → 160 ≤ b) → (a ≡ 237 → b < 160) → IsThree a b
is_three a b low high after before least most = record { low = low; high = high; after = after; before = before; least = least; most = most }

is_four : (a b : ℕ) → 240 ≤ a → a < 245 → 128 ≤ b → b < 192 → (a ≤ 240 → 144 ≤ b) → (244 ≤ a → b < 144) → IsFour a b
is_four a b low high after before least most = record { low = low; high = high; after = after; before = before; least = least; most = most }

abbrev EachDecodes : List (List (ℕ × ℕ)) → Type 0
EachDecodes [] = Unit {0}
EachDecodes (row ∷ rows) = Decodes row × EachDecodes rows

all_rows : EachDecodes characters
all_rows = (
  one_byte,
  (
    two_bytes,
    (
      three_bytes 224 224 160 191 (λ a b p q r s. is_three a b (omega arith) (omega arith) (omega arith) (omega arith) (λ e. omega arith) (λ e. omega arith)),
      (
        three_bytes 225 236 128 191 (λ a b p q r s. is_three a b (omega arith) (omega arith) (omega arith) (omega arith) (λ e. omega arith) (λ e. omega arith)),
        (
          three_bytes 237 237 128 159 (λ a b p q r s. is_three a b (omega arith) (omega arith) (omega arith) (omega arith) (λ e. omega arith) (λ e. omega arith)),
          (
            three_bytes 238 239 128 191 (λ a b p q r s. is_three a b (omega arith) (omega arith) (omega arith) (omega arith) (λ e. omega arith) (λ e. omega arith)),
            (
              four_bytes 240 240 144 191 (λ a b p q r s. is_four a b (omega arith) (omega arith) (omega arith) (omega arith) (λ e. omega arith) (λ e. omega arith)),
              (
                four_bytes 241 243 128 191 (λ a b p q r s. is_four a b (omega arith) (omega arith) (omega arith) (omega arith) (λ e. omega arith) (λ e. omega arith)),
                (four_bytes 244 244 128 143 (λ a b p q r s. is_four a b (omega arith) (omega arith) (omega arith) (omega arith) (λ e. omega arith) (λ e. omega arith)), tt),
              ),
            ),
          ),
        ),
      ),
    ),
  ),
)

found_in : (rows : List (List (ℕ × ℕ))) (bs : List ℕ) → EachDecodes rows → 0 < length_among rows bs → IsChar bs
found_in [] bs each some = absurd (omega arith)
found_in (row ∷ rows) bs each some = by (lies_in bs row) refl some (found_in rows bs each.1) where
  by : (t : Bool) → lies_in bs row ≡ t → 0 < cond t (length row) (length_among rows bs) → (0 < length_among rows bs → IsChar bs) → IsChar bs
  by true lies h others = each.0 bs lies
  by false lies h others = others h

-- what `?` takes is a character
pub takes_character : (bs : List ℕ) → 0 < character_length bs → IsChar bs
unfolding character_length
takes_character bs some = found_in characters bs all_rows some
