-- What is written is read as it was.
use Rattle.std.proofs.Common.{◌≡◌, ℕ, zero, suc, ◌+◌, ◌-◌, ◌*◌, ◌/◌, ◌%◌, ◌^◌, ◌<◌, ◌≤◌, nat_le, true, false, ◌==◌, List, [], ◌∷◌, ◌++◌, length, take, replicate, refl, sym, ap, ◌∙◌, subst, arith, Some, option_and_then, sub-one}
use Rattle.std.specs.List.{list_all}
use Rattle.std.specs.Option.{option_map}
use Rattle.std.proofs.lemmas.Bool.Decides.{nat_tests}
use Rattle.std.proofs.lemmas.List.{length-append}
use Rattle.std.proofs.lemmas.List.Sums.{fold-append}
use Rattle.std.proofs.lemmas.List.Folds.{list_all-append}
use Rattle.std.proofs.Math.Nat.{pow-suc, one-le-pow}
use Rattle.std.proofs.lemmas.Nat.{pow-add}
use Rattle.dm_value.specs.declared.value.Moment.{Moment}
use Rattle.dm_value.specs.declared.value.Stamp.{Stamp}
use Rattle.dm_schema.specs.Kinds.{is_between}
use Rattle.dm_schema.specs.Fits.{fits_moment}
use Rattle.dm_time.specs.Texts.{with_digit, number_of, has_shape, moment_of, micros_of, part, stamp_at, stamp_of, fraction_length, IsTextOf}
use Rattle.dm_time.specs.Written.{digits_of, fraction_text, moment_text}
use Rattle.dm_time.proofs.Decimals.{filled_up}
use Rattle.dm_time.proofs.Shapes.{moment_shape, shaped_moment}

pub one_digit_more : (count number : ℕ) → 0 < count → digits_of count number ≡ digits_of (count - 1) (number / 10) ++ (48 + number % 10) ∷ []
one_digit_more zero number some = absurd (omega arith)
one_digit_more (suc count) number some = rw sub-one refl

digits_length : (count number : ℕ) → length (digits_of count number) ≡ count
digits_length zero number = refl
digits_length (suc count) number = length-append (digits_of count (number / 10)) ((48 + number % 10) ∷ []) ∙ (rw (digits_length count (number / 10)) (omega arith))

from_48 : (digit : ℕ) → nat_le 48 (48 + digit % 10) ≡ true
from_48 digit = grind (arith, nat_tests)

to_57 : (digit : ℕ) → nat_le (48 + digit % 10) 57 ≡ true
to_57 digit = grind (arith, nat_tests)

are_digits : (count number : ℕ) → list_all (is_between 48 57) (digits_of count number) ≡ true
are_digits zero number = refl
are_digits (suc count) number = rw (list_all-append (is_between 48 57) (digits_of count (number / 10)) ((48 + number % 10) ∷ []), are_digits count (number / 10)) (simp (from_48, to_57))

pub number_is_read : (count number : ℕ) → number < 10 ^ count → number_of (digits_of count number) ≡ number
number_is_read zero number below = omega arith
number_is_read (suc count) number below =
    let bound : number < 10 ^ count * 10 = subst (λ (n : ℕ). number < n) (pow-suc 10 count) below in
    let rest : number / 10 < 10 ^ count = omega arith in
    fold-append with_digit 0 (digits_of count (number / 10)) ((48 + number % 10) ∷ []) ∙ (rw (number_is_read count (number / 10) rest) (omega arith))

-- the fraction's digits and the zeros that were left out behind them
whole_fraction : (digits micros : ℕ) → digits ≤ 6 → micros ≤ 999999 → micros % 10 ^ (6 - digits) ≡ 0 → number_of (digits_of digits (micros / 10 ^ (6 - digits)) ++ replicate (6 - digits) 48) ≡ micros
whole_fraction digits micros few most whole =
    let six : digits + (6 - digits) ≡ 6 = omega arith in
    let unit : 1 ≤ 10 ^ (6 - digits) = one-le-pow (6 - digits) 10 (omega arith) in
    let million : 10 ^ digits * 10 ^ (6 - digits) ≡ 10 ^ 6 = sym (pow-add 10 digits (6 - digits)) ∙ ap (λ k. 10 ^ k) six in
    let units : micros / 10 ^ (6 - digits) * 10 ^ (6 - digits) ≡ micros = times (10 ^ (6 - digits)) unit whole in
    filled_up (digits_of digits (micros / 10 ^ (6 - digits))) (6 - digits) ∙ ap (λ n. n * 10 ^ (6 - digits)) (number_is_read digits (micros / 10 ^ (6 - digits)) (below (micros / 10 ^ (6 - digits)) (10 ^ (6 - digits)) (10 ^ digits) (rw (units, million) (omega arith)))) ∙ units where
      times : (unit : ℕ) → 1 ≤ unit → micros % unit ≡ 0 → micros / unit * unit ≡ micros
      times unit some whole = grind arith

      below : (n unit end : ℕ) → n * unit < end * unit → n < end
      below n unit end h = grind arith

behind_point : (digits : ℕ) (text : List ℕ) → length text ≡ digits → list_all (is_between 48 57) text ≡ true → micros_of digits (46 ∷ text) ≡ Some (number_of (text ++ replicate (6 - digits) 48))
behind_point digits text long all =
    let le : nat_le digits digits ≡ true = grind (arith, nat_tests) in
    rw (long, all, le) refl

with_point : (digits micros : ℕ) → 0 < digits → fraction_text digits micros ≡ 46 ∷ digits_of digits (micros / 10 ^ (6 - digits))
with_point digits micros some =
    let none : (digits == 0) ≡ false = grind (arith, nat_tests) in
    rw none refl

fraction_is_read : (digits micros : ℕ) → digits ≤ 6 → micros ≤ 999999 → micros % 10 ^ (6 - digits) ≡ 0 → micros_of digits (fraction_text digits micros) ≡ Some micros
fraction_is_read zero micros few most whole =
    let none : 0 ≡ micros = omega arith in
    ap (λ (n : ℕ). Some n) none
fraction_is_read (suc digits) micros few most whole =
    let text : List ℕ = digits_of (suc digits) (micros / 10 ^ (6 - suc digits)) in
    ap (micros_of (suc digits)) (with_point (suc digits) micros (omega arith))
    ∙ behind_point (suc digits) text (digits_length (suc digits) (micros / 10 ^ (6 - suc digits))) (are_digits (suc digits) (micros / 10 ^ (6 - suc digits)))
    ∙ ap (λ (n : ℕ). Some n) (whole_fraction (suc digits) micros few most whole)

fraction_long : (digits micros : ℕ) → length (fraction_text digits micros) ≡ fraction_length digits
fraction_long zero micros = refl
fraction_long (suc digits) micros =
    let none : (suc digits == 0) ≡ false = grind (arith, nat_tests) in
    ap length (with_point (suc digits) micros (omega arith)) ∙ (rw (none, digits_length (suc digits) (micros / 10 ^ (6 - suc digits))) (omega arith))

-- the parts of a moment that fits a column
record Parts (digits : ℕ) (m : Moment) : Type 0 where
  year : m.day.year ≤ 9999
  month : m.day.month ≤ 12
  day : m.day.day ≤ 31
  hour : m.hour ≤ 23
  minute : m.minute ≤ 59
  second : m.second ≤ 59
  most : m.micros ≤ 999999
  whole : m.micros % 10 ^ (6 - digits) ≡ 0

parts_of : (digits : ℕ) (m : Moment) → fits_moment digits m ≡ true → Parts digits m
parts_of digits m fits =
    record {
      year = grind (arith, nat_tests, fits);
      month = grind (arith, nat_tests, fits);
      day = grind (arith, nat_tests, fits);
      hour = grind (arith, nat_tests, fits);
      minute = grind (arith, nat_tests, fits);
      second = grind (arith, nat_tests, fits);
      most = grind (arith, nat_tests, fits);
      whole = grind (arith, nat_tests, fits);
    }

text_has_shape : (digits : ℕ) (m : Moment) → has_shape moment_shape (take 19 (moment_text digits m)) ≡ true
text_has_shape digits m = simp (from_48, to_57)

pub moment_is_read : (digits : ℕ) (m : Moment) → digits ≤ 6 → fits_moment digits m ≡ true → moment_of digits (moment_text digits m) ≡ Some m
moment_is_read digits m few fits =
    let p = parts_of digits m fits in
    let year : part 0 4 (moment_text digits m) ≡ m.day.year = number_is_read 4 m.day.year (omega (arith, p.year)) in
    let month : part 5 2 (moment_text digits m) ≡ m.day.month = number_is_read 2 m.day.month (omega (arith, p.month)) in
    let day : part 8 2 (moment_text digits m) ≡ m.day.day = number_is_read 2 m.day.day (omega (arith, p.day)) in
    let hour : part 11 2 (moment_text digits m) ≡ m.hour = number_is_read 2 m.hour (omega (arith, p.hour)) in
    let minute : part 14 2 (moment_text digits m) ≡ m.minute = number_is_read 2 m.minute (omega (arith, p.minute)) in
    let second : part 17 2 (moment_text digits m) ≡ m.second = number_is_read 2 m.second (omega (arith, p.second)) in
    shaped_moment digits (moment_text digits m) (text_has_shape digits m)
    ∙ ap (option_map _) (fraction_is_read digits m.micros few p.most p.whole)
    ∙ (λ i. Some (record { day = record { year = year i; month = month i; day = day i }; hour = hour i; minute = minute i; second = second i; micros = m.micros }))

pub text_is_long : (digits : ℕ) (m : Moment) → length (moment_text digits m) ≡ 19 + fraction_length digits
text_is_long digits m = rw (← fraction_long digits m.micros) (omega arith)

pub stamp_is_read : (digits : ℕ) (s : Stamp) (m : Moment) (text : List ℕ) → digits ≤ 6 → stamp_at m ≡ Some s → fits_moment digits m ≡ true → text ≡ moment_text digits m → IsTextOf s digits text
stamp_is_read digits s m text few at fits is =
    record {
      read = ap (stamp_of digits) is ∙ ap (option_and_then stamp_at) (moment_is_read digits m few fits) ∙ at;
      whole = ap length is ∙ text_is_long digits m;
    }
