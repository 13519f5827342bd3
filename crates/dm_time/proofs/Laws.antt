-- Laws of stamps and their texts.
use Rattle.std.proofs.Common.{◌≡◌, ℕ, ◌+◌, ◌-◌, ◌*◌, ◌%◌, ◌^◌, ◌<◌, ◌≤◌, nat_le, Bool, true, false, cond, ◌&&◌, ◌==◌, List, [], ◌∷◌, ◌++◌, length, drop, replicate, refl, sym, ap, ◌∙◌, subst, arith, Option, Some, None, option_and_then}
use Rattle.std.specs.List.{list_all}
use Rattle.std.proofs.lemmas.Bool.Decides.{nat_tests}
use Rattle.std.proofs.Math.Nat.{mul-mod_left, zero-mod, mul_assoc}
use Rattle.std.proofs.lemmas.Nat.{pow-add}
use Rattle.dm_value.specs.declared.value.Moment.{Moment}
use Rattle.dm_value.specs.declared.value.Stamp.{Stamp}
use Rattle.dm_schema.specs.Kinds.{is_between}
use Rattle.dm_schema.specs.Fits.{fits_stamp, fits_micros}
use Rattle.dm_time.specs.Civil.{is_civil, seconds_of}
use Rattle.dm_time.specs.Texts.{number_of, moment_of, micros_of, stamp_at, stamp_of, IsTextOf, is_zero_moment, is_stamp_moment}
use Rattle.dm_time.proofs.Decimals.{digits_below, filled_up, below_six}
use Rattle.dm_time.proofs.OneText.{one_text}
use Rattle.dm_time.proofs.Shapes.{both, moment_read}

-- the first second of 2024
first_of_2024 : seconds_of (record { day = record { year = 2024; month = 1; day = 1 }; hour = 0; minute = 0; second = 0; micros = 0 }) ≡ 0x65920080
first_of_2024 = refl

-- the last second that 31 bits count, and the next one
last_second : seconds_of (record { day = record { year = 2038; month = 1; day = 19 }; hour = 3; minute = 14; second = 7; micros = 0 }) ≡ 2 ^ 31 - 1
last_second = refl

second_after : seconds_of (record { day = record { year = 2038; month = 1; day = 19 }; hour = 3; minute = 14; second = 8; micros = 0 }) ≡ 2 ^ 31
second_after = refl

fits_where : (digits n : ℕ) → n < 10 ^ 6 → n % 10 ^ (6 - digits) ≡ 0 → fits_micros digits n ≡ true
fits_where digits n below whole = tests (n % 10 ^ (6 - digits)) whole where
  tests : (rest : ℕ) → rest ≡ 0 → (nat_le n 999999 && rest == 0) ≡ true
  tests rest none = grind (arith, nat_tests)

filled_up_fits : (most : ℕ) (digits : List ℕ) → most ≤ 6 → length digits ≤ most → list_all (is_between 48 57) digits ≡ true → fits_micros most (number_of (digits ++ replicate (6 - length digits) 48)) ≡ true
filled_up_fits most digits le few all =
    let below : number_of digits < 10 ^ length digits = omega (arith, digits_below 0 digits all) in
    let million = below_six (number_of digits) (length digits) (omega arith) below in
    let split : most - length digits + (6 - most) ≡ 6 - length digits = omega arith in
    let units : number_of digits * 10 ^ (6 - length digits) ≡ number_of digits * 10 ^ (most - length digits) * 10 ^ (6 - most) = ap (λ n. number_of digits * n) (sym (ap (λ k. 10 ^ k) split) ∙ pow-add 10 (most - length digits) (6 - most)) ∙ sym (mul_assoc (number_of digits) (10 ^ (most - length digits)) (10 ^ (6 - most))) in
    let whole : number_of digits * 10 ^ (6 - length digits) % 10 ^ (6 - most) ≡ 0 = ap (λ n. n % 10 ^ (6 - most)) units ∙ mul-mod_left (number_of digits * 10 ^ (most - length digits)) (10 ^ (6 - most)) in
    rw (filled_up digits (6 - length digits)) (fits_where most (number_of digits * 10 ^ (6 - length digits)) million whole)

micros_fit : (most : ℕ) (text : List ℕ) (micros : ℕ) → most ≤ 6 → micros_of most text ≡ Some micros → fits_micros most micros ≡ true
micros_fit most [] micros le read = subst (λ (n : ℕ). fits_micros most n ≡ true) (let e : 0 ≡ micros = cc in e) (fits_where most 0 (omega arith) (zero-mod (10 ^ (6 - most))))
micros_fit most (point ∷ digits) micros le read = by (point == 46 && nat_le (length digits) most && list_all (is_between 48 57) digits) refl read where
  by : (b : Bool) → (point == 46 && nat_le (length digits) most && list_all (is_between 48 57) digits) ≡ b → cond b (Some (number_of (digits ++ replicate (6 - length digits) 48))) None ≡ Some micros → fits_micros most micros ≡ true
  by true told read =
      let parts = both (point == 46 && nat_le (length digits) most) (list_all (is_between 48 57) digits) told in
      let few : length digits ≤ most = grind (arith, nat_tests, both (point == 46) (nat_le (length digits) most) parts.0) in
      subst (λ (n : ℕ). fits_micros most n ≡ true) (let e : number_of (digits ++ replicate (6 - length digits) 48) ≡ micros = cc in e) (filled_up_fits most digits le few parts.1)
  by false told read = cc

counted_fits : (digits seconds micros : ℕ) → is_between 1 2147483647 seconds ≡ true → fits_micros digits micros ≡ true → fits_stamp digits (record { seconds = seconds; micros = micros }) ≡ true
counted_fits digits seconds micros between fits =
    let some : (seconds == 0) ≡ false = grind (arith, nat_tests, between) in
    let most : nat_le seconds 2147483647 ≡ true = grind (arith, nat_tests, between) in
    rw (some, most) fits

stamp_at_fits : (digits : ℕ) (m : Moment) (s : Stamp) → fits_micros digits m.micros ≡ true → stamp_at m ≡ Some s → fits_stamp digits s ≡ true
stamp_at_fits digits m s micros at = by (is_zero_moment m) (is_stamp_moment m) refl at where
  by : (zeroed stamped : Bool) → is_stamp_moment m ≡ stamped → cond zeroed (Some (record { seconds = 0; micros = 0 })) (cond stamped (Some (record { seconds = seconds_of m; micros = m.micros })) None) ≡ Some s → fits_stamp digits s ≡ true
  by true stamped told at = subst (λ (s : Stamp). fits_stamp digits s ≡ true) (let e : record { seconds = 0; micros = 0 } ≡ s = cc in e) refl
  by false true told at =
      let between = both (is_civil m && nat_le 1970 m.day.year) (is_between 1 2147483647 (seconds_of m)) told in
      subst (λ (s : Stamp). fits_stamp digits s ≡ true) (let e : record { seconds = seconds_of m; micros = m.micros } ≡ s = cc in e) (counted_fits digits (seconds_of m) m.micros between.1 micros)
  by false false told at = cc

-- a stamp that a text writes is one of its column's
pub stamp_fits : (digits : ℕ) (text : List ℕ) (s : Stamp) → digits ≤ 6 → stamp_of digits text ≡ Some s → fits_stamp digits s ≡ true
stamp_fits digits text s le read = by (moment_of digits text) refl read where
  by : (o : Option Moment) → moment_of digits text ≡ o → option_and_then stamp_at o ≡ Some s → fits_stamp digits s ≡ true
  by None told read = cc
  by (Some m) told read = stamp_at_fits digits m s (micros_fit digits (drop 19 text) m.micros le (moment_read digits text m told).micros) read

-- and with so many digits it has one text
pub stamp_has_one_text : (digits : ℕ) (s : Stamp) (a b : List ℕ) → IsTextOf s digits a → IsTextOf s digits b → a ≡ b
stamp_has_one_text digits s a b left right = one_text digits s a b left right
