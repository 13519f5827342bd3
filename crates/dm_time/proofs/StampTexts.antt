-- A stamp's text is read as the stamp.
use Rattle.std.proofs.Common.{◌≡◌, ℕ, ◌+◌, ◌-◌, ◌/◌, ◌%◌, ◌^◌, ◌≤◌, nat_le, ◌==◌, ◌&&◌, Bool, true, false, cond, List, Option, Some, None, refl, ap, arith}
use Rattle.std.proofs.lemmas.Bool.Decides.{nat_tests}
use Rattle.std.proofs.Math.Nat.{zero-mod}
use Rattle.dm_value.specs.declared.value.Day.{Day}
use Rattle.dm_value.specs.declared.value.Moment.{Moment}
use Rattle.dm_value.specs.declared.value.Stamp.{Stamp}
use Rattle.dm_schema.specs.Fits.{fits_day, fits_moment, fits_stamp, fits_micros}
use Rattle.dm_time.specs.Civil.{days_in_month, seconds_of, is_civil, civil_moment, zero_moment, moment_in_utc, date_at}
use Rattle.dm_time.specs.Texts.{is_zero_moment, is_stamp_moment, stamp_at, IsTextOf}
use Rattle.dm_time.specs.Written.{stamp_text}
use Rattle.dm_time.proofs.DatesAt.{IsDateAt, date_is_at}
use Rattle.dm_time.proofs.OneText.{is_day}
use Rattle.dm_time.proofs.Shapes.{both}
use Rattle.dm_time.proofs.Written.{stamp_is_read}

-- what is told of a moment is that it is a stamp's, and fits its column
record HasStamp (digits : ℕ) (s : Stamp) (m : Moment) : Type 0 where
  at : stamp_at m ≡ Some s
  fits : fits_moment digits m ≡ true

joined : (a b : Bool) → a ≡ true → b ≡ true → (a && b) ≡ true
joined a b ea eb = rw (ea, eb) refl

at_most : (a b : ℕ) → a ≤ b → nat_le a b ≡ true
at_most a b le = grind (arith, nat_tests)

chosen : (zero_too civil : Bool) (counted seconds micros : ℕ) → zero_too ≡ false → civil ≡ true → counted ≡ seconds
    → cond {A = Option Stamp} zero_too (Some (record { seconds = 0; micros = 0 })) (cond {A = Option Stamp} civil (Some (record { seconds = counted; micros = micros })) None) ≡ Some (record { seconds = seconds; micros = micros })
chosen true civil counted seconds micros z c e = absurd cc
chosen false false counted seconds micros z c e = absurd cc
chosen false true counted seconds micros z c e = ap (λ (n : ℕ). Some (record { seconds = n; micros = micros })) e

not_zero : (m : Moment) → 1970 ≤ m.day.year → is_zero_moment m ≡ false
not_zero m from =
    let some : (m.day.year == 0) ≡ false = grind (arith, nat_tests) in
    rw some refl

short_month : (year month : ℕ) → days_in_month year month ≤ 31
short_month year month = grind arith

civil_has_stamp : (digits seconds micros : ℕ) (d : Day) → IsDateAt (719162 + seconds / 86400) d → 1 ≤ seconds → seconds ≤ 2147483647 → fits_micros digits micros ≡ true
    → HasStamp digits (record { seconds = seconds; micros = micros }) (record { day = d; hour = seconds % 86400 / 3600; minute = seconds % 86400 / 60 % 60; second = seconds % 86400 % 60; micros = micros })
civil_has_stamp digits seconds micros d is some most fraction =
    at (seconds % 86400 / 3600) (seconds % 86400 / 60 % 60) (seconds % 86400 % 60) (omega arith) (omega arith) (omega arith) (omega (arith, is.days_before)) where
      at : (h i s : ℕ) → h ≤ 23 → i ≤ 59 → s ≤ 59 → seconds_of (record { day = d; hour = h; minute = i; second = s; micros = micros }) ≡ seconds → HasStamp digits (record { seconds = seconds; micros = micros }) (record { day = d; hour = h; minute = i; second = s; micros = micros })
      at h i s hours minutes seconds_too counted =
          let m : Moment = record { day = d; hour = h; minute = i; second = s; micros = micros } in
          let day = is_day d (omega (arith, is.from)) is.date in
          let clock_of : (front : Bool) → front ≡ true → (front && nat_le h 23 && nat_le i 59 && nat_le s 59) ≡ true = λ front told. joined _ _ (joined _ _ (joined front (nat_le h 23) told (at_most h 23 hours)) (at_most i 59 minutes)) (at_most s 59 seconds_too) in
          let least : nat_le 1 (seconds_of m) ≡ true = at_most 1 (seconds_of m) (omega (arith, counted)) in
          let greatest : nat_le (seconds_of m) 2147483647 ≡ true = at_most (seconds_of m) 2147483647 (omega (arith, counted)) in
          let civil : is_stamp_moment m ≡ true = joined _ _ (joined (is_civil m) (nat_le 1970 d.year) (clock_of _ is.date) (at_most 1970 d.year is.from)) (joined _ _ least greatest) in
          let days : fits_day d ≡ true = joined _ _ (joined _ _ (at_most d.year 9999 (omega (arith, is.to))) (at_most d.month 12 day.last)) (at_most d.day 31 (omega (arith, day.most, short_month d.year d.month))) in
          record {
            at = chosen (is_zero_moment m) (is_stamp_moment m) (seconds_of m) seconds micros (not_zero m is.from) civil counted;
            fits = joined _ _ (clock_of _ days) fraction;
          }

moment_has_stamp : (digits : ℕ) (s : Stamp) → fits_stamp digits s ≡ true → HasStamp digits s (moment_in_utc s)
moment_has_stamp digits s fits = by (s.seconds == 0) refl fits where
  by : (zero_too : Bool) → (s.seconds == 0) ≡ zero_too → cond zero_too (s.micros == 0) (nat_le s.seconds 2147483647 && fits_micros digits s.micros) ≡ true → HasStamp digits s (cond {A = Moment} zero_too zero_moment (civil_moment s.seconds s.micros))
  by true told fits =
      let none : 0 ≡ s.seconds = grind (arith, nat_tests, told) in
      let whole : 0 ≡ s.micros = grind (arith, nat_tests, fits) in
      record {
        at = λ i. Some (record { seconds = none i; micros = whole i });
        fits = rw (zero-mod (10 ^ (6 - digits))) refl;
      }
  by false told fits =
      let parts = both (nat_le s.seconds 2147483647) (fits_micros digits s.micros) fits in
      let some : 1 ≤ s.seconds = grind (arith, nat_tests, told) in
      let most : s.seconds ≤ 2147483647 = grind (arith, nat_tests, parts.0) in
      civil_has_stamp digits s.seconds s.micros (date_at (719162 + s.seconds / 86400)) (date_is_at (719162 + s.seconds / 86400) (omega arith) (omega arith)) some most parts.1

pub stamp_text_is_read : (digits : ℕ) (s : Stamp) (text : List ℕ) → digits ≤ 6 → fits_stamp digits s ≡ true → text ≡ stamp_text digits s → IsTextOf s digits text
stamp_text_is_read digits s text few fits is =
    let stamped = moment_has_stamp digits s fits in
    stamp_is_read digits s (moment_in_utc s) text few stamped.at stamped.fits is
