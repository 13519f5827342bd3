-- The digits that numbers are written in.
use Rattle.std.proofs.Common.{◌≡◌, ℕ, zero, suc, ◌+◌, ◌/◌, ◌%◌, ◌^◌, ◌<◌, ◌≤◌, Bool, true, false, cond, ◌==◌, List, [], ◌∷◌, ◌++◌, length, refl, ◌∙◌, arith, leb, le-leb}
use Rattle.std.specs.List.{list_all}
use Rattle.std.specs.Fmt.{decimal, digits, digits_onto, digit_glyph}
use Rattle.std.proofs.lemmas.Bool.{and_from, agree_below_at}
use Rattle.std.proofs.lemmas.Fmt.{decimal_by_steps_wide}
use Rattle.std.proofs.lemmas.List.Sums.{fold-append}
use Rattle.dm_time.specs.Texts.{with_digit, number_of}
use Rattle.dm_time.specs.Written.{digits_of}
use Rattle.dm_lex.specs.Lexemes.{is_digit}
use Rattle.dm_reread.proofs.Follows.{all_both}

glyph_is_digit : (n : ℕ) → is_digit (digit_glyph false (n % 10)) ≡ true
glyph_is_digit n = agree_below_at (λ m. is_digit (digit_glyph false m)) (λ m. true) 10 (n % 10) refl (omega arith)

onto_are_digits : (k n : ℕ) (after : List ℕ) → list_all is_digit after ≡ true → list_all is_digit (digits_onto k 10 false n after) ≡ true
onto_are_digits zero n after all = all
onto_are_digits (suc k) n after all =
    let more : list_all is_digit (digit_glyph false (n % 10) ∷ after) ≡ true = and_from (is_digit (digit_glyph false (n % 10))) (list_all is_digit after) (glyph_is_digit n) all in
    by (n / 10 == 0) more (onto_are_digits k (n / 10) (digit_glyph false (n % 10) ∷ after) more) where
      by : (last : Bool) → list_all is_digit (digit_glyph false (n % 10) ∷ after) ≡ true → list_all is_digit (digits_onto k 10 false (n / 10) (digit_glyph false (n % 10) ∷ after)) ≡ true
          → list_all is_digit (cond last (digit_glyph false (n % 10) ∷ after) (digits_onto k 10 false (n / 10) (digit_glyph false (n % 10) ∷ after))) ≡ true
      by true first rest = first
      by false first rest = rest

onto_some : (k n : ℕ) (after : List ℕ) → 1 ≤ length after → 1 ≤ length (digits_onto k 10 false n after)
onto_some zero n after some = some
onto_some (suc k) n after some = by (n / 10 == 0) (onto_some k (n / 10) (digit_glyph false (n % 10) ∷ after) (omega arith)) where
  by : (last : Bool) → 1 ≤ length (digits_onto k 10 false (n / 10) (digit_glyph false (n % 10) ∷ after)) → 1 ≤ length (cond last (digit_glyph false (n % 10) ∷ after) (digits_onto k 10 false (n / 10) (digit_glyph false (n % 10) ∷ after)))
  by true rest = omega arith
  by false rest = rest

pub decimal_is_digits : (n : ℕ) → list_all is_digit (decimal n) ≡ true
unfolding digits
decimal_is_digits n = onto_are_digits 64 n [] refl

pub decimal_some : (n : ℕ) → 1 ≤ length (decimal n)
unfolding digits
decimal_some n = by (n / 10 == 0) where
  by : (last : Bool) → 1 ≤ length (cond last (digit_glyph false (n % 10) ∷ []) (digits_onto 63 10 false (n / 10) (digit_glyph false (n % 10) ∷ [])))
  by true = omega arith
  by false = onto_some 63 (n / 10) (digit_glyph false (n % 10) ∷ []) (omega arith)

pub digits_are_digits : (count n : ℕ) → list_all is_digit (digits_of count n) ≡ true
digits_are_digits zero n = refl
digits_are_digits (suc count) n =
    let least = le-leb 48 (48 + n % 10) (omega arith) in
    let most = le-leb (48 + n % 10) 57 (omega arith) in
    all_both is_digit (digits_of count (n / 10)) ((48 + n % 10) ∷ []) (digits_are_digits count (n / 10))
    (and_from (is_digit (48 + n % 10)) true (and_from (leb 48 (48 + n % 10)) (leb (48 + n % 10) 57) least most) refl)

pub number_is_read : (n : ℕ) → n < 10 ^ 64 → number_of (decimal n) ≡ n
number_is_read n small = decimal_by_steps_wide (λ m ds. number_of ds ≡ m) one more n small where
  one : (m : ℕ) → m < 10 → number_of ((48 + m) ∷ []) ≡ m
  one m less = omega arith

  more : (m : ℕ) (ds : List ℕ) → 10 ≤ m → number_of ds ≡ m / 10 → number_of (ds ++ ((48 + m % 10) ∷ [])) ≡ m
  more m ds great is = fold-append with_digit 0 ds ((48 + m % 10) ∷ []) ∙ (rw is (omega arith))
