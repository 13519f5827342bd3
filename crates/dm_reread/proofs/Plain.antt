-- Texts of days and moments are strings without escapes.
use Rattle.std.proofs.Common.{◌≡◌, ℕ, zero, suc, ◌+◌, ◌-◌, ◌/◌, ◌%◌, ◌^◌, Bool, true, false, cond, ◌||◌, ◌==◌, List, [], ◌∷◌, ◌++◌, refl, sym, ap, ◌∙◌, codes, arith, eqb, leb, eqb-true, le-leb}
use Rattle.std.specs.List.{flat_map, list_all}
use Rattle.std.proofs.lemmas.Bool.{and_parts, and_from, or_left, false_from_ne_true}
use Rattle.dm_value.specs.declared.value.Day.{Day}
use Rattle.dm_value.specs.declared.value.Moment.{Moment}
use Rattle.dm_value.specs.declared.value.Stamp.{Stamp}
use Rattle.dm_time.specs.Civil.{moment_in_utc}
use Rattle.dm_time.specs.Written.{digits_of, day_text, time_text, fraction_text, moment_text, stamp_text}
use Rattle.dm_schema.specs.Kinds.{is_between}
use Rattle.dm_text.specs.Values.{escaped, in_quotes, string_text}
use Rattle.dm_reread.proofs.Follows.{all_both}

-- a digit, a dash, a point, a colon or a blank
abbrev pub is_plain : ℕ → Bool
is_plain b = is_between 45 58 b || eqb b 32

digit_plain : (d : ℕ) → is_plain (48 + d % 10) ≡ true
digit_plain d =
    let least = le-leb 45 (48 + d % 10) (omega arith) in
    let most = le-leb (48 + d % 10) 58 (omega arith) in
    or_left (is_between 45 58 (48 + d % 10)) (eqb (48 + d % 10) 32) (and_from (leb 45 (48 + d % 10)) (leb (48 + d % 10) 58) least most)

digits_plain : (count n : ℕ) → list_all is_plain (digits_of count n) ≡ true
digits_plain zero n = refl
digits_plain (suc count) n = all_both is_plain (digits_of count (n / 10)) ((48 + n % 10) ∷ []) (digits_plain count (n / 10)) (and_from (is_plain (48 + n % 10)) true (digit_plain n) refl)

three_plain : (a b c : List ℕ) (sign : ℕ) → is_plain sign ≡ true → list_all is_plain a ≡ true → list_all is_plain b ≡ true → list_all is_plain c ≡ true → list_all is_plain (a ++ sign ∷ [] ++ b ++ sign ∷ [] ++ c) ≡ true
three_plain a b c sign is pa pb pc =
    let one : list_all is_plain (sign ∷ []) ≡ true = and_from (is_plain sign) true is refl in
    all_both is_plain (a ++ sign ∷ [] ++ b ++ sign ∷ []) c (all_both is_plain (a ++ sign ∷ [] ++ b) (sign ∷ []) (all_both is_plain (a ++ sign ∷ []) b (all_both is_plain a (sign ∷ []) pa one) pb) one) pc

pub day_plain : (d : Day) → list_all is_plain (day_text d) ≡ true
day_plain d = three_plain (digits_of 4 d.year) (digits_of 2 d.month) (digits_of 2 d.day) 45 refl (digits_plain 4 d.year) (digits_plain 2 d.month) (digits_plain 2 d.day)

time_plain : (m : Moment) → list_all is_plain (time_text m) ≡ true
time_plain m = three_plain (digits_of 2 m.hour) (digits_of 2 m.minute) (digits_of 2 m.second) 58 refl (digits_plain 2 m.hour) (digits_plain 2 m.minute) (digits_plain 2 m.second)

fraction_plain : (digits micros : ℕ) → list_all is_plain (fraction_text digits micros) ≡ true
fraction_plain digits micros = by (digits == 0) where
  by : (none : Bool) → list_all is_plain (cond none [] (46 ∷ digits_of digits (micros / 10 ^ (6 - digits)))) ≡ true
  by true = refl
  by false = digits_plain digits (micros / 10 ^ (6 - digits))

pub moment_plain : (digits : ℕ) (m : Moment) → list_all is_plain (moment_text digits m) ≡ true
moment_plain digits m =
    all_both is_plain (day_text m.day ++ codes " " ++ time_text m) (fraction_text digits m.micros)
    (all_both is_plain (day_text m.day ++ codes " ") (time_text m) (all_both is_plain (day_text m.day) (codes " ") (day_plain m.day) refl) (time_plain m))
    (fraction_plain digits m.micros)

pub stamp_plain : (digits : ℕ) (s : Stamp) → list_all is_plain (stamp_text digits s) ≡ true
stamp_plain digits s = moment_plain digits (moment_in_utc s)

-- A plain byte is written as it is.

escaped_plain : (b : ℕ) → is_plain b ≡ true → escaped b ≡ b ∷ []
escaped_plain b plain =
    let other = differs b plain in
    rw (other 0 refl, other 10 refl, other 13 refl, other 26 refl, other 39 refl, other 92 refl) refl where
      differs : (b : ℕ) → is_plain b ≡ true → (a : ℕ) → is_plain a ≡ false → eqb b a ≡ false
      differs b plain a not_plain = false_from_ne_true (eqb b a) (λ is. let same = eqb-true b a is in let never : true ≡ false = sym plain ∙ ap is_plain same ∙ not_plain in absurd cc)

pub plain_string : (bytes : List ℕ) → list_all is_plain bytes ≡ true → string_text bytes ≡ in_quotes bytes
plain_string bytes all = ap in_quotes (all_same bytes all) where
  all_same : (bytes : List ℕ) → list_all is_plain bytes ≡ true → flat_map escaped bytes ≡ bytes
  all_same [] all = refl
  all_same (b ∷ bytes) all =
      let parts = and_parts (is_plain b) (list_all is_plain bytes) all in
      λ i. escaped_plain b parts.0 i ++ all_same bytes parts.1 i
