-- What a text that may follow doesn't begin with, and runs of bytes that end before it.
use Rattle.std.proofs.Common.{◌≡◌, ℕ, Bool, true, false, ◌||◌, List, [], ◌∷◌, ◌++◌, length, refl, sym, ap, ◌∙◌, arith, eqb, eqb-true}
use Rattle.std.specs.List.{prefix_len, list_all}
use Rattle.std.proofs.lemmas.Bool.{and_parts, and_from, or_parts, not-true, false_from_ne_true}
use Rattle.std.proofs.lemmas.Bool.Decides.{nat_tests}
use Rattle.std.proofs.lemmas.List.Folds.{list_all-append}
use Rattle.dm_lex.specs.Lexemes.{is_digit, is_hex_digit, begins_word, is_word_byte, at_front, starts}
use Rattle.dm_reread.specs.Parts.{goes_on, may_follow}

-- A byte that goes on with no token.

pub record GoesNowhere (b : ℕ) : Type 0 where
  pub word : is_word_byte b ≡ false
  pub point : eqb b 46 ≡ false
  pub quote : eqb b 39 ≡ false
  pub backquote : eqb b 96 ≡ false

goes_nowhere : (b : ℕ) → goes_on b ≡ false → GoesNowhere b
goes_nowhere b h =
    let last = or_parts (is_word_byte b || eqb b 46 || eqb b 39) (eqb b 96) h in
    let third = or_parts (is_word_byte b || eqb b 46) (eqb b 39) last.0 in
    let second = or_parts (is_word_byte b) (eqb b 46) third.0 in
    record { word = second.0; point = second.1; quote = third.1; backquote = last.1 }

pub no_digit : (b : ℕ) → is_word_byte b ≡ false → is_digit b ≡ false
no_digit b h = (or_parts (begins_word b) (is_digit b) h).1

pub no_hex_digit : (b : ℕ) → is_word_byte b ≡ false → is_hex_digit b ≡ false
no_hex_digit b h = grind (arith, nat_tests, h)

no_x : (b : ℕ) → is_word_byte b ≡ false → eqb b 120 ≡ false
no_x b h = false_from_ne_true (eqb b 120) (λ is. let same = eqb-true b 120 is in let never : is_word_byte 120 ≡ false = ap is_word_byte (sym same) ∙ h in absurd cc)

-- The first byte of a text that may follow.

pub record Ends (behind : List ℕ) : Type 0 where
  pub word : at_front is_word_byte behind ≡ false
  pub digit : at_front is_digit behind ≡ false
  pub hex_digit : at_front is_hex_digit behind ≡ false
  pub x : starts 120 behind ≡ false
  pub point : starts 46 behind ≡ false
  pub quote : starts 39 behind ≡ false
  pub backquote : starts 96 behind ≡ false

pub ends : (behind : List ℕ) → may_follow behind ≡ true → Ends behind
ends [] h = record { word = refl; digit = refl; hex_digit = refl; x = refl; point = refl; quote = refl; backquote = refl }
ends (b ∷ behind) h =
    let none = goes_nowhere b (not-true (goes_on b) h) in
    record {
      word = none.word;
      digit = no_digit b none.word;
      hex_digit = no_hex_digit b none.word;
      x = no_x b none.word;
      point = none.point;
      quote = none.quote;
      backquote = none.backquote;
    }

-- Runs.

pub run_length : (test : ℕ → Bool) (xs behind : List ℕ) → list_all test xs ≡ true → at_front test behind ≡ false → prefix_len test (xs ++ behind) ≡ length xs
run_length test [] [] all ends = refl
run_length test [] (b ∷ behind) all ends = rw ends refl
run_length test (x ∷ xs) behind all ends =
    let parts = and_parts (test x) (list_all test xs) all in
    let rest = run_length test xs behind parts.1 ends in
    rw (parts.0, rest) (omega arith)

pub all_both : (test : ℕ → Bool) (xs ys : List ℕ) → list_all test xs ≡ true → list_all test ys ≡ true → list_all test (xs ++ ys) ≡ true
all_both test xs ys first second = list_all-append test xs ys ∙ and_from (list_all test xs) (list_all test ys) first second
