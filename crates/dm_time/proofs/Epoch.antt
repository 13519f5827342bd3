-- The days before a date are those that the crate `jiff` counts from 1970-01-01.
use Rattle.std.proofs.Common.{◌≡◌, ℕ, zero, suc, ◌+◌, ◌-◌, ◌≤◌, ◌==◌, ◌||◌, ◌&&◌, Some, None, false, if◌then◌else◌, ℤ, pos, negsuc, unsigned_abs, ◌+ℤ◌, ◌≤ℤ◌, true, refl, sym, ap, ◌∙◌, inl, subst, arith}
use Rattle.std.proofs.lemmas.Bool.Decides.{nat_tests}
use Rattle.std.proofs.lemmas.Int.{ints, by_lt_z}
use Rattle.jiff_core.specs.Date.{epoch_day}
use Rattle.jiff_core.specs.declared.civil.date.Date.{Date}
use Rattle.jiff_core.specs.Calendar.{days_from_civil, days_in_month as month_length}
use Rattle.jiff_core.proofs.DateLemmas.{epoch_day-lt, days_from_civil-day, days_from_civil-next_month, days_from_civil-next_year}
use Rattle.dm_value.specs.declared.value.Day.{Day}
use Rattle.dm_schema.specs.Kinds.{is_between}
use Rattle.dm_time.specs.Civil.{is_date, is_leap, days_in_month, days_before_year, days_before_month, days_before, epoch}
use Rattle.dm_time.proofs.Calendar.{month_more, year_length, is_date_from}

same_month_length : (year month : ℕ) → days_in_month year month ≡ month_length (pos year) month
same_month_length year month = lengths (if is_leap year then 29 else 28) where
  lengths : (february : ℕ) → (if month == 2 then february else (if 4 == month || (6 == month || (9 == month || (11 == month || false))) then 30 else 31)) ≡ (if month == 2 then february else (if (month == 4) || (month == 6) || (month == 9) || (month == 11) then 30 else 31))
  lengths february = grind (arith, nat_tests)

epoch_is_zero : days_from_civil (pos 1970) 1 1 ≡ pos 0
unfolding days_from_civil
epoch_is_zero = omega (arith, ints)

month_has_days : (year month : ℕ) → 1 ≤ days_in_month year month
month_has_days year month = grind arith

next_month : (year month : ℕ) → 1 ≤ month → days_from_civil (pos year) (month + 1) 1 ≡ days_from_civil (pos year) month 1 +ℤ pos (days_in_month year month)
next_month year month some =
    let last = days_from_civil-next_month (pos year) month (days_in_month year month) some (same_month_length year month) in
    let day = days_from_civil-day (pos year) month (days_in_month year month) 1 (month_has_days year month) (omega arith) in
    omega (arith, ints, last, day)

-- the first of each month
month_begins : (year months : ℕ) → days_from_civil (pos year) (1 + months) 1 ≡ days_from_civil (pos year) 1 1 +ℤ pos (days_before_month year (1 + months))
month_begins year zero = omega (arith, ints)
month_begins year (suc months) =
    let before = month_begins year months in
    let next = next_month year (1 + months) (omega arith) in
    let more = month_more year (1 + months) (omega arith) in
    let e : 1 + months + 1 ≡ 1 + suc months = omega arith in
    let sums : days_from_civil (pos year) (1 + months + 1) 1 ≡ days_from_civil (pos year) 1 1 +ℤ pos (days_before_month year (1 + months + 1)) = omega (arith, ints, before, next, more) in
    subst (λ (n : ℕ). days_from_civil (pos year) n 1 ≡ days_from_civil (pos year) 1 1 +ℤ pos (days_before_month year n)) e sums

next_year : (year : ℕ) → 1 ≤ year → days_from_civil (pos (year + 1)) 1 1 ≡ days_from_civil (pos year) 1 1 +ℤ pos (days_before_month year 13)
next_year year some =
    let december = month_begins year 11 in
    let more : days_before_month year 13 ≡ days_before_month year 12 + 31 = month_more year 12 (omega arith) in
    let last = days_from_civil-day (pos year) 12 31 1 (omega arith) (omega arith) in
    let first = days_from_civil-next_year (pos year) (pos (year + 1)) (omega (arith, ints)) (omega (arith, ints)) in
    omega (arith, ints, december, more, last, first)

-- the first of each year from 1970 on
year_begins : (years : ℕ) → days_from_civil (pos (1970 + years)) 1 1 +ℤ pos (days_before epoch) ≡ pos (days_before_year (1970 + years))
year_begins zero = omega (arith, ints, epoch_is_zero)
year_begins (suc years) =
    let before = year_begins years in
    let next = next_year (1970 + years) (omega arith) in
    let long = year_length (1970 + years) (omega arith) in
    let e : 1970 + years + 1 ≡ 1970 + suc years = omega arith in
    let sums : days_from_civil (pos (1970 + years + 1)) 1 1 +ℤ pos (days_before epoch) ≡ pos (days_before_year (1970 + years + 1)) = omega (arith, ints, before, next, long) in
    subst (λ (n : ℕ). days_from_civil (pos n) 1 1 +ℤ pos (days_before epoch) ≡ pos (days_before_year n)) e sums

-- Each date from 1970 on has as many days since 1970-01-01.
pub days_since_epoch : (d : Day) → 1970 ≤ d.year → 1 ≤ d.month → 1 ≤ d.day → days_from_civil (pos d.year) d.month d.day ≡ pos (days_before d - days_before epoch)
days_since_epoch d from month day = counted d.year d.month d.day from month day where
  counted : (y m day : ℕ) → 1970 ≤ y → 1 ≤ m → 1 ≤ day → days_from_civil (pos y) m day ≡ pos (days_before_year y + days_before_month y m + (day - 1) - 719162)
  counted y m day from month some =
      let year_e : 1970 + (y - 1970) ≡ y = omega arith in
      let month_e : 1 + (m - 1) ≡ m = omega arith in
      let year = subst (λ (n : ℕ). days_from_civil (pos n) 1 1 +ℤ pos 719162 ≡ pos (days_before_year n)) year_e (year_begins (y - 1970)) in
      let begins = subst (λ (n : ℕ). days_from_civil (pos y) n 1 ≡ days_from_civil (pos y) 1 1 +ℤ pos (days_before_month y n)) month_e (month_begins y (m - 1)) in
      let last = days_from_civil-day (pos y) m day 1 some (omega arith) in
      omega (arith, ints, year, begins, last)

-- a date of `jiff` is one of ours
pub is_our_date : (d : Date) (year : ℕ) → d.year ≡ pos year → is_date (record { year = year; month = d.month; day = d.day }) ≡ true
is_our_date d year same =
    let long : month_length d.year d.month ≡ days_in_month year d.month = ap (λ z. month_length z d.month) same ∙ sym (same_month_length year d.month) in
    is_date_from year d.month d.day d.month_in.0 d.month_in.1 d.day_in.0 (omega (arith, d.day_in.1, long))

-- and so are its days since 1970-01-01
pub its_days : (d : Date) (year days : ℕ) → d.year ≡ pos year → 1970 ≤ year → epoch_day d ≡ pos days → days_before (record { year = year; month = d.month; day = d.day }) ≡ days_before epoch + days
its_days d year days same from counted =
    let ours = days_since_epoch (record { year = year; month = d.month; day = d.day }) from d.month_in.0 d.day_in.0 in
    let sums : pos (days_before (record { year = year; month = d.month; day = d.day }) - days_before epoch) ≡ pos days = sym ours ∙ ap (λ z. days_from_civil z d.month d.day) (sym same) ∙ counted in
    behind year d.month d.day days from sums where
      behind : (y m day days : ℕ) → 1970 ≤ y → pos (days_before_year y + days_before_month y m + (day - 1) - 719162) ≡ pos days → days_before_year y + days_before_month y m + (day - 1) ≡ 719162 + days
      behind y m day days from sums = omega (arith, ints, sums)

first_date : Date
first_date = record { year = pos 1970; month = 1; day = 1; year_in = (omega (arith, ints), omega (arith, ints)); month_in = (omega arith, omega arith); day_in = (omega arith, omega arith) }

-- a date from 1970-01-01 on is of no earlier year
pub no_earlier : (d : Date) (days : ℕ) → epoch_day d ≡ pos days → pos 1970 ≤ℤ d.year
unfolding first_date
no_earlier d days counted = by_lt_z d.year (pos 1970) (λ lt. absurd (omega (arith, ints, epoch_day-lt d first_date (inl lt), epoch_is_zero, counted))) (λ ge. ge)

pub natural_year : (z : ℤ) → pos 1970 ≤ℤ z → z ≡ pos (unsigned_abs z)
natural_year (pos n) h = refl
natural_year (negsuc n) h = absurd (omega (arith, ints, h))

-- what is found of a day that the calendar has
pub found_date : (day : Day) (d : Date) (count : ℕ) → d.year ≡ pos day.year → d.month ≡ day.month → d.day ≡ day.day → 1970 ≤ day.year → day.year ≤ 9999 → epoch_day d +ℤ pos 4_371_587 ≡ pos count → (4_371_587 ≤ count) × (Some (count - 4_371_587) ≡ (if is_date day && is_between 1970 9999 day.year then Some (days_before day - days_before epoch) else None))
found_date day d count year month of_month from to counted =
    let same : record { year = day.year; month = d.month; day = d.day } ≡ day = λ i. record { year = day.year; month = month i; day = of_month i } in
    let date : is_date day ≡ true = subst (λ (k : Day). is_date k ≡ true) same (is_our_date d day.year year) in
    let days : epoch_day d ≡ pos (days_before day - days_before epoch) = ap (λ z. days_from_civil z d.month d.day) year ∙ (λ i. days_from_civil (pos day.year) (month i) (of_month i)) ∙ days_since_epoch day from (omega (arith, d.month_in.0, month)) (omega (arith, d.day_in.0, of_month)) in
    let between : is_between 1970 9999 day.year ≡ true = grind (arith, nat_tests) in
    let number : days_before day - days_before epoch ≡ count - 4_371_587 = number_of (days_before day - days_before epoch) days in
    (least (days_before day - days_before epoch) days, rw (date, between) (ap (λ (n : ℕ). Some n) (sym number))) where
      number_of : (n : ℕ) → epoch_day d ≡ pos n → n ≡ count - 4_371_587
      number_of n days = omega (arith, ints, days, counted)

      least : (n : ℕ) → epoch_day d ≡ pos n → 4_371_587 ≤ count
      least n days = omega (arith, ints, days, counted)
