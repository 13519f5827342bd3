-- Whole numbers: what a text of JSON's number says as one.
use Rattle.std.proofs.Common.{◌≡◌, ◌≢◌, ℕ, ◌^◌, ◌<◌, Bool, true, false, cond, ◌&&◌, ltb, [], ◌∷◌, length, get_or, Option, Some, None, refl, sym, ap, subst, ◌∙◌, arith}
use Rattle.std.specs.Prelude.{ok_or}
use Rattle.std.specs.Str.{all_ascii_digits}
use Rattle.std.specs.Str.Parse.{digits_value, ParsesUnsigned}
use Rattle.std.specs.Result.{OkIff}
use Rattle.std.proofs.lemmas.Bool.{lt-ltb, ltb-true}
use Rattle.std.proofs.lemmas.Fmt.{digits_decimal, digits_value-decimal, decimal_nonempty}
use Rattle.std.proofs.lemmas.Str.Parse.{IsNumeralModel, numerals_by_value, tells_all_ascii_digits, parse_plain}
use Rattle.json.specs.Word.{after_number}
use Rattle.std.specs.Fmt.{decimal}
use Rattle.std.specs.Option.{MatchOption}
use Rattle.json.specs.Json.{Json, null, boolean, number, string, array, object}
use Rattle.json.specs.Find.{as_number}
use Rattle.json.specs.Print.{IsNumber}
use Rattle.json.specs.Tree.{HasNumbers}
use Rattle.dm_meta.specs.Texts.{Text, whole_of, whole}

pub own : IsNumeralModel (λ ds. all_ascii_digits ds ≡ true) (digits_value 10)
own = numerals_by_value _ tells_all_ascii_digits

-- a number of JSON has no plus
pub no_plus : (text : Text) → IsNumber text → get_or text 0 0 ≢ 43
unfolding after_number
no_plus [] is e = absurd (omega arith)
no_plus (c ∷ cs) is e = let none : None ≡ Some [] = subst (λ c. after_number (c ∷ cs) ≡ Some []) e is in cc

abbrev IsWhole : Text → Type 0
IsWhole text = (all_ascii_digits text ≡ true) × (0 < length text) × (digits_value 10 text < 2 ^ 64)

some_whole : (text : Text) → IsWhole text → whole_of text ≡ Some (digits_value 10 text)
unfolding whole_of
some_whole text is = rw (is.0, lt-ltb _ _ is.1, lt-ltb _ _ is.2) refl

no_whole : (text : Text) → (IsWhole text → ⊥) → whole_of text ≡ None
unfolding whole_of
no_whole text isnt = by (all_ascii_digits text) (ltb 0 (length text)) (ltb (digits_value 10 text) (2 ^ 64)) refl refl refl where
  by : (digits some small : Bool) → all_ascii_digits text ≡ digits → ltb 0 (length text) ≡ some → ltb (digits_value 10 text) (2 ^ 64) ≡ small → cond (digits && some && small) (Some (digits_value 10 text)) None ≡ None
  by true true true d s m = absurd (isnt (d, ltb-true _ _ s, ltb-true _ _ m))
  by true true false d s m = refl
  by true false small d s m = refl
  by false some small d s m = refl

pub whole_read : (text : Text) (result : Option ℕ) → IsNumber text → ParsesUnsigned 64 10 text (ok_or result text) → result ≡ whole_of text
whole_read text result is parsed = by result (parse_plain own 64 text (ok_or result text) parsed (no_plus text is)) where
  by : (result : Option ℕ) → OkIff (ok_or result text) (IsWhole text) (digits_value 10 text) → result ≡ whole_of text
  by (Some n) told = ap Some told.1 ∙ sym (some_whole text told.0)
  by None told = sym (no_whole text told)

pub whole_told : (value : Json) (result : Option ℕ) → HasNumbers value → MatchOption (as_number value) (result ≡ None) (λ text. ParsesUnsigned 64 10 text (ok_or result text)) → result ≡ whole value
whole_told null result are told = told
whole_told (boolean b) result are told = told
whole_told (number text) result is told = whole_read text result is told
whole_told (string text) result are told = told
whole_told (array values) result are told = told
whole_told (object _) result are told = told

-- what is written is read again
pub whole_decimal : (n : ℕ) → n < 2 ^ 64 → whole_of (decimal n) ≡ Some n
whole_decimal n fits =
    let value : digits_value 10 (decimal n) ≡ n = digits_value-decimal own n fits in
    some_whole (decimal n) (digits_decimal own n fits, decimal_nonempty n fits, rw value fits) ∙ ap Some value
