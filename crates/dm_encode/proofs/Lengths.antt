-- Texts: how long they are, and that reading keeps them.
use Rattle.std.proofs.Common.{◌≡◌, ℕ, zero, suc, ◌+◌, ◌-◌, ◌*◌, ◌/◌, ◌%◌, ◌^◌, ◌<◌, ◌≤◌, Bool, true, false, not, cond, ltb, leb, eqb, ◌==◌, List, [], ◌∷◌, ◌++◌, length, get_or, refl, subst, arith, append-nil}
use Rattle.std.specs.Prelude.{IsTrue}
use Rattle.std.specs.List.{suffix_len}
use Rattle.std.specs.Str.{IsUtf8, is_utf8}
use Rattle.std.specs.Fmt.{char_count, is_char_start}
use Rattle.std.proofs.lemmas.List.{take_all}
use Rattle.std.proofs.lemmas.List.Sums.{suffix_len_is}
use Rattle.std.proofs.lemmas.Bool.{ltb-true, leb-true}
use Rattle.std.proofs.lemmas.Bool.Decides.{nat_tests}
use Rattle.std.proofs.lemmas.Str.{IsUtf8-from_is_utf8}
use lib.Utf8.{encode, encodes}
use Rattle.dm_schema.specs.Fits.{ends_in_space, fits_text}
use Rattle.dm_decode.specs.Types.{prefix_width, real_type, string_length}
use Rattle.dm_decode.specs.Values.{padded, without_blanks_at_end}
use Rattle.dm_encode.specs.Kinds.{string_meta}
use Rattle.dm_encode.proofs.Rests.{both}

-- no byte counts for less than nothing
more_count : (b : ℕ) (rest : List ℕ) → char_count rest ≤ char_count (b ∷ rest)
unfolding char_count
more_count b rest = omega arith

one_count : (b : ℕ) (rest : List ℕ) → is_char_start b ≡ true → char_count (b ∷ rest) ≡ 1 + char_count rest
unfolding char_count
one_count b rest start = rw start refl

low_starts : (b : ℕ) → b < 128 → is_char_start b ≡ true
low_starts b h = let test : ltb b 128 ≡ true = search (nat_tests, arith) in rw test refl

high_starts : (b : ℕ) → 192 ≤ b → is_char_start b ≡ true
high_starts b h =
    let test : ltb b 128 ≡ false = search (nat_tests, arith) in
    let high : leb 192 b ≡ true = search (nat_tests, arith) in
    rw (test, high) refl

-- A character has four bytes at most, and counts.
char_short : (c : ℕ) (rest : List ℕ) → length rest ≤ 4 * char_count rest → length (encode c ++ rest) ≤ 4 * char_count (encode c ++ rest)
unfolding encode
char_short c rest h = by (ltb c 128) (ltb c 2048) (ltb c 65536) refl where
  by : (one two three : Bool) → ltb c 128 ≡ one
      → length (cond one (c ∷ []) (cond two ((192 + c / 64) ∷ (128 + c % 64) ∷ []) (cond three ((224 + c / 4096) ∷ (128 + c / 64 % 64) ∷ (128 + c % 64) ∷ []) ((240 + c / 262144) ∷ (128 + c / 4096 % 64) ∷ (128 + c / 64 % 64) ∷ (128 + c % 64) ∷ []))) ++ rest)
      ≤ 4 * char_count (cond one (c ∷ []) (cond two ((192 + c / 64) ∷ (128 + c % 64) ∷ []) (cond three ((224 + c / 4096) ∷ (128 + c / 64 % 64) ∷ (128 + c % 64) ∷ []) ((240 + c / 262144) ∷ (128 + c / 4096 % 64) ∷ (128 + c / 64 % 64) ∷ (128 + c % 64) ∷ []))) ++ rest)
  by true two three e =
      let first = one_count c rest (low_starts c (ltb-true c 128 e)) in
      omega (arith, first, h)
  by false true three e =
      let first = one_count (192 + c / 64) ((128 + c % 64) ∷ rest) (high_starts (192 + c / 64) (omega arith)) in
      let second = more_count (128 + c % 64) rest in
      omega (arith, first, second, h)
  by false false true e =
      let first = one_count (224 + c / 4096) ((128 + c / 64 % 64) ∷ (128 + c % 64) ∷ rest) (high_starts (224 + c / 4096) (omega arith)) in
      let second = more_count (128 + c / 64 % 64) ((128 + c % 64) ∷ rest) in
      let third = more_count (128 + c % 64) rest in
      omega (arith, first, second, third, h)
  by false false false e =
      let first = one_count (240 + c / 262144) ((128 + c / 4096 % 64) ∷ (128 + c / 64 % 64) ∷ (128 + c % 64) ∷ rest) (high_starts (240 + c / 262144) (omega arith)) in
      let second = more_count (128 + c / 4096 % 64) ((128 + c / 64 % 64) ∷ (128 + c % 64) ∷ rest) in
      let third = more_count (128 + c / 64 % 64) ((128 + c % 64) ∷ rest) in
      let fourth = more_count (128 + c % 64) rest in
      omega (arith, first, second, third, fourth, h)

chars_short : (cs : List ℕ) → length (encodes cs) ≤ 4 * char_count (encodes cs)
unfolding char_count
chars_short [] = omega arith
chars_short (c ∷ cs) = char_short c (encodes cs) (chars_short cs)

utf8_short : (bytes : List ℕ) → IsUtf8 bytes → length bytes ≤ 4 * char_count bytes
utf8_short bytes text = let P : List ℕ → Type 0 = λ b. length b ≤ 4 * char_count b in subst P text.1.1 (chars_short text.0)

-- a text of some characters has up to four times as many bytes
pub text_short : (most : ℕ) (bytes : List ℕ) → IsTrue (fits_text most bytes) → length bytes ≤ 4 * most
text_short most bytes fits =
    let p = both (is_utf8 bytes) (leb (char_count bytes) most) fits in
    let few = leb-true (char_count bytes) most p.1 in
    let short = utf8_short bytes (IsUtf8-from_is_utf8 bytes p.0) in
    omega (arith, few, short)

not_true : (b : Bool) → IsTrue (not b) → b ≡ false
not_true true h = absurd cc
not_true false h = refl

-- a text without a blank at its end is kept as it is
pub blanks_none : (bytes : List ℕ) → IsTrue (not (ends_in_space bytes)) → without_blanks_at_end bytes ≡ bytes
blanks_none bytes fits =
    let last : eqb (get_or bytes (length bytes - 1) 0) 32 ≡ false = not_true (ends_in_space bytes) fits in
    let none = suffix_len_is (λ b. b == 32) bytes (length bytes) 0 (omega arith) (λ k from to. absurd (omega arith)) (λ some. last) in
    take_all (length bytes - suffix_len (λ b. b == 32) bytes) bytes (omega (arith, none))

pub padded_none : (size : ℕ) (bytes : List ℕ) → length bytes ≡ size → padded size bytes ≡ bytes
padded_none size bytes long = let none : size - length bytes ≡ 0 = omega arith in rw (none, append-nil) refl

-- the length that MYSQL_TYPE_STRING's metadata give
pub string_length_back : (most : ℕ) → most < 1024 → string_length (string_meta most) ≡ most
string_length_back most small = by (most / 256) (most % 256) refl refl where
  by : (high low : ℕ) → most / 256 ≡ high → most % 256 ≡ low → string_length ((254 - 16 * high) + 256 * low) ≡ most
  by zero low e f = omega (arith, e, f)
  by (suc zero) low e f = omega (arith, e, f)
  by (suc (suc zero)) low e f = omega (arith, e, f)
  by (suc (suc (suc zero))) low e f = omega (arith, e, f)
  by (suc (suc (suc (suc n)))) low e f = absurd (omega (arith, e))

pub real_type_back : (most : ℕ) → most < 1024 → real_type (string_meta most) ≡ 254
real_type_back most small = by (most / 256) (most % 256) refl refl where
  by : (high low : ℕ) → most / 256 ≡ high → most % 256 ≡ low → real_type ((254 - 16 * high) + 256 * low) ≡ 254
  by zero low e f = omega (arith, e, f)
  by (suc zero) low e f = omega (arith, e, f)
  by (suc (suc zero)) low e f = omega (arith, e, f)
  by (suc (suc (suc zero))) low e f = omega (arith, e, f)
  by (suc (suc (suc (suc n)))) low e f = absurd (omega (arith, e))

pub prefix_room : (most count : ℕ) → count ≤ most → most < 65536 → count < 256 ^ prefix_width most
prefix_room most count within small = by (ltb most 256) refl where
  by : (b : Bool) → ltb most 256 ≡ b → count < 256 ^ cond b 1 2
  by true e = let below = ltb-true most 256 e in omega (arith, below)
  by false e = omega arith
