-- A header is read as the length that it was made of, and what looks like one is one.
use Rattle.std.proofs.Common.{◌≡◌, ℕ, zero, suc, ◌+◌, ◌*◌, ◌/◌, ◌%◌, ◌^◌, ◌<◌, ◌≤◌, Bool, true, false, ◌==◌, List, [], ◌∷◌, ◌++◌, length, take, drop, replicate, codes, refl, sym, ap, ◌∙◌, arith, add-zero, append-nil, append_assoc, cond, fold, eqb-true, lit<}
use Rattle.std.specs.Prelude.{not, nat_le}
use Rattle.std.specs.List.{list_all}
use Rattle.std.proofs.lemmas.Bool.Decides.{nat_tests}
use Rattle.std.proofs.lemmas.List.{take-append-drop, drop-drop, length-take, length-take-le, length-drop}
use Rattle.std.proofs.Math.Nat.{pow-le-pow_right}
use Rattle.dm_schema.specs.Kinds.{is_between}
use Rattle.dm_time.specs.Texts.{with_digit, number_of}
use Rattle.dm_time.specs.Written.{digits_of}
use Rattle.dm_time.proofs.Decimals.{digits_below}
use Rattle.dm_time.proofs.Shapes.{both}
use Rattle.dm_time.proofs.Written.{number_is_read}
use Rattle.dm_journal.specs.Framing.{header}
use Rattle.dm_journal.specs.Headers.{header_shape, stands_for, begins_as, length_digits}

-- The digits of a number that digits write are those.

digit_behind : (n d : ℕ) → 48 ≤ d → d ≤ 57 → (with_digit n d / 10 ≡ n) × (48 + with_digit n d % 10 ≡ d)
digit_behind n d low high = (omega arith, omega arith)

written_behind : (count n : ℕ) (digits : List ℕ) → list_all (is_between 48 57) digits ≡ true → digits_of (count + length digits) (fold with_digit n digits) ≡ digits_of count n ++ digits
written_behind count n [] all = rw (add-zero, append-nil) refl
written_behind count n (d ∷ digits) all =
    let parts = both (is_between 48 57 d) (list_all (is_between 48 57) digits) all in
    let low : 48 ≤ d = grind (arith, nat_tests, parts.0) in
    let high : d ≤ 57 = grind (arith, nat_tests, parts.0) in
    let digit = digit_behind n d low high in
    let counted : count + suc (length digits) ≡ suc count + length digits = omega arith in
    ap (λ k. digits_of k (fold with_digit n (d ∷ digits))) counted
    ∙ written_behind (suc count) (with_digit n d) digits parts.1
    ∙ append_assoc (digits_of count (with_digit n d / 10)) _ digits
    ∙ (λ i. digits_of count (digit.0 i) ++ (digit.1 i ∷ digits))

digits_written : (digits : List ℕ) → list_all (is_between 48 57) digits ≡ true → digits_of (length digits) (number_of digits) ≡ digits
digits_written digits all =
    let counted : length digits ≡ 0 + length digits = omega arith in
    ap (λ k. digits_of k (number_of digits)) counted ∙ written_behind 0 0 digits all

-- A header's length, read.

pub header_read : (size : ℕ) (rest : List ℕ) → size < 10 ^ 10 → number_of (length_digits (header size ++ rest)) ≡ size
header_read size rest below = number_is_read 10 size below

from_48 : (digit : ℕ) → nat_le 48 (48 + digit % 10) ≡ true
from_48 digit = grind (arith, nat_tests)

to_57 : (digit : ℕ) → nat_le (48 + digit % 10) 57 ≡ true
to_57 digit = grind (arith, nat_tests)

pub header_begins : (size : ℕ) (rest : List ℕ) → begins_as header_shape (header size ++ rest) ≡ true
header_begins size rest = simp (from_48, to_57)

-- what begins so does it in front, too
pub begins_front : (shape xs ys : List ℕ) → begins_as shape (xs ++ ys) ≡ true → begins_as shape xs ≡ true
begins_front [] xs ys h = refl
begins_front (s ∷ shape) [] ys h = refl
begins_front (s ∷ shape) (x ∷ xs) ys h =
    let parts = both (stands_for s x) (begins_as shape (xs ++ ys)) h in
    rw (parts.0, begins_front shape xs ys parts.1) refl

begins_nothing : (shape : List ℕ) → begins_as shape [] ≡ true
begins_nothing [] = refl
begins_nothing (s ∷ shape) = refl

-- a part of a shape goes on to the whole of it
pub begins_further : (shape xs : List ℕ) → list_all (λ s. stands_for s s) shape ≡ true → begins_as shape xs ≡ true → begins_as shape (xs ++ drop (length xs) shape) ≡ true
begins_further [] [] own h = refl
begins_further [] (x ∷ xs) own h = refl
begins_further (s ∷ shape) [] own h =
    let parts = both (stands_for s s) (list_all (λ s. stands_for s s) shape) own in
    rw (parts.0) (begins_further shape [] parts.1 (begins_nothing shape))
begins_further (s ∷ shape) (x ∷ xs) own h =
    let first = both (stands_for s x) (begins_as shape xs) h in
    let rest = both (stands_for s s) (list_all (λ s. stands_for s s) shape) own in
    rw (first.0) (begins_further shape xs rest.1 first.1)

-- What has the look of a header and its size is one.

-- signs that stand for themselves alone
begins_with : (signs bytes : List ℕ) → list_all (λ s. not (s == 48)) signs ≡ true → begins_as signs bytes ≡ true → length signs ≤ length bytes → take (length signs) bytes ≡ signs
begins_with [] bytes own h long = refl
begins_with (s ∷ signs) [] own h long = absurd (omega arith)
begins_with (s ∷ signs) (b ∷ bytes) own h long =
    let own_parts = both (not (s == 48)) (list_all (λ s. not (s == 48)) signs) own in
    let parts = both (stands_for s b) (begins_as signs bytes) h in
    let same : b ≡ s = by (s == 48) own_parts.0 parts.0 in
    let rest : length signs ≤ length bytes = omega arith in
    λ i. same i ∷ begins_with signs bytes own_parts.1 parts.1 rest i where
      by : (zero_sign : Bool) → not zero_sign ≡ true → cond zero_sign (is_between 48 57 b) (b == s) ≡ true → b ≡ s
      by true n e = absurd cc
      by false n e = eqb-true b s e

begins_digits : (count : ℕ) (bytes : List ℕ) → begins_as (replicate count 48) bytes ≡ true → list_all (is_between 48 57) (take count bytes) ≡ true
begins_digits zero bytes h = refl
begins_digits (suc count) [] h = refl
begins_digits (suc count) (b ∷ bytes) h =
    let parts = both (is_between 48 57 b) (begins_as (replicate count 48) bytes) h in
    rw (parts.0) (begins_digits count bytes parts.1)

begins_behind : (signs shape bytes : List ℕ) → begins_as (signs ++ shape) bytes ≡ true → (begins_as signs bytes ≡ true) × (begins_as shape (drop (length signs) bytes) ≡ true)
begins_behind [] shape bytes h = (refl, h)
begins_behind (s ∷ signs) shape [] h = (refl, begins_nothing shape)
begins_behind (s ∷ signs) shape (b ∷ bytes) h =
    let parts = both (stands_for s b) (begins_as (signs ++ shape) bytes) h in
    let rest = begins_behind signs shape bytes parts.1 in
    (rw (parts.0) rest.0, rest.1)

pub header_there : (bytes : List ℕ) → begins_as header_shape bytes ≡ true → 17 ≤ length bytes → bytes ≡ header (number_of (length_digits bytes)) ++ drop 17 bytes
header_there bytes h long =
    let word = begins_behind (codes "-- dm ") (replicate 10 48 ++ 10 ∷ []) bytes h in
    let number = begins_behind (replicate 10 48) (10 ∷ []) (drop 6 bytes) word.1 in
    let front : take 6 bytes ≡ codes "-- dm " = begins_with (codes "-- dm ") bytes refl word.0 (omega arith) in
    let rest_long : 10 ≤ length (drop 6 bytes) = rw (length-drop 6 bytes) (omega arith) in
    let end_long : 1 ≤ length (drop 10 (drop 6 bytes)) = rw (length-drop 10 (drop 6 bytes), length-drop 6 bytes) (omega arith) in
    let digits : digits_of 10 (number_of (length_digits bytes)) ≡ length_digits bytes =
    ap (λ k. digits_of k (number_of (length_digits bytes))) (sym (length-take-le 10 (drop 6 bytes) rest_long)) ∙ digits_written (length_digits bytes) (begins_digits 10 (drop 6 bytes) number.0) in
    let line_end : take 1 (drop 10 (drop 6 bytes)) ≡ 10 ∷ [] = begins_with (10 ∷ []) (drop 10 (drop 6 bytes)) refl number.1 end_long in
    let past : drop 1 (drop 10 (drop 6 bytes)) ≡ drop 17 bytes = drop-drop 1 10 (drop 6 bytes) ∙ drop-drop 11 6 bytes in
    let behind_word : drop 6 bytes ≡ digits_of 10 (number_of (length_digits bytes)) ++ (10 ∷ drop 17 bytes) =
    sym (take-append-drop 10 (drop 6 bytes)) ∙ (λ i. sym digits i ++ (sym (take-append-drop 1 (drop 10 (drop 6 bytes))) ∙ (λ j. line_end j ++ past j)) i) in
    sym (take-append-drop 6 bytes) ∙ (λ i. front i ++ behind_word i)

-- its digits write a number that has room in them
pub digits_have_room : (bytes : List ℕ) → begins_as header_shape bytes ≡ true → number_of (length_digits bytes) < 10 ^ 10
digits_have_room bytes h =
    let word = begins_behind (codes "-- dm ") (replicate 10 48 ++ 10 ∷ []) bytes h in
    let number = begins_behind (replicate 10 48) (10 ∷ []) (drop 6 bytes) word.1 in
    let below = digits_below 0 (length_digits bytes) (begins_digits 10 (drop 6 bytes) number.0) in
    let few : length (length_digits bytes) ≤ 10 = rw (length-take 10 (drop 6 bytes)) (omega arith) in
    at_most_ten (number_of (length_digits bytes)) (length (length_digits bytes)) few below where
      at_most_ten : (n count : ℕ) → count ≤ 10 → n < (0 + 1) * 10 ^ count → n < 10 ^ 10
      at_most_ten n count few below =
          let some : 0 < 10 = lit< tt in
          let most : 10 ^ count ≤ 10 ^ 10 = pow-le-pow_right some few in
          omega arith
