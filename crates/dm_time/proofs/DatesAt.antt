-- The date that has so many days before it.
use Rattle.std.proofs.Common.{◌≡◌, ℕ, zero, suc, ◌+◌, ◌-◌, ◌<◌, ◌≤◌, nat_lt, Bool, true, false, cond, refl, sym, ◌∙◌, subst, arith}
use Rattle.std.proofs.lemmas.Bool.Decides.{nat_tests}
use Rattle.dm_value.specs.declared.value.Day.{Day}
use Rattle.dm_time.specs.Civil.{is_date, days_before_year, days_before_month, days_before, last_place, year_at, month_at, date_in, date_at}
use Rattle.dm_time.proofs.Calendar.{month_more, is_date_from, year_length}
use Rattle.dm_time.proofs.OneText.{is_day, same_day}

-- a place with at most n before it, and more before the next
record IsLast (before : ℕ → ℕ) (n from count place : ℕ) : Type 0 where
  low : before place ≤ n
  high : n < before (place + 1)
  least : from ≤ place
  most : place ≤ from + count

is_last : (before : ℕ → ℕ) (n count from end : ℕ) → end ≡ from + count + 1 → before from ≤ n → n < before end → IsLast before n from count (last_place before n count from)
unfolding last_place
is_last before n zero from end ends low high =
    let next : end ≡ from + 1 = omega arith in
    record { low = low; high = subst (λ (e : ℕ). n < before e) next high; least = omega arith; most = omega arith }
is_last before n (suc count) from end ends low high = by (nat_lt n (before (from + 1))) refl (λ reached. is_last before n count (from + 1) end (omega arith) reached high) where
  by : (b : Bool) → nat_lt n (before (from + 1)) ≡ b → (before (from + 1) ≤ n → IsLast before n (from + 1) count (last_place before n count (from + 1))) → IsLast before n from (suc count) (cond b from (last_place before n count (from + 1)))
  by true told others = record { low = low; high = grind (arith, nat_tests, told); least = omega arith; most = omega arith }
  by false told others =
      let rest = others (grind (arith, nat_tests, told)) in
      record { low = rest.low; high = rest.high; least = omega (arith, rest.least); most = omega (arith, rest.most) }

-- a date with so many days before it
pub record IsDateAt (days : ℕ) (d : Day) : Type 0 where
  pub date : is_date d ≡ true
  pub days_before : days_before d ≡ days
  pub from : 1970 ≤ d.year
  pub to : d.year ≤ 2106

in_year : (year days : ℕ) → 1970 ≤ year → year ≤ 2106 → days < days_before_month year 13 → IsDateAt (days_before_year year + days) (date_in year days)
in_year year days from to within = at (month_at year days) (is_last (days_before_month year) days 11 1 13 refl (omega arith) within) where
  at : (month : ℕ) → IsLast (days_before_month year) days 1 11 month → IsDateAt (days_before_year year + days) (record { year = year; month = month; day = days - days_before_month year month + 1 })
  at month is =
      let next = month_more year month is.least in
      record {
        date = is_date_from year month (days - days_before_month year month + 1) is.least (omega (arith, is.most)) (omega arith) (omega (arith, next, is.low, is.high));
        days_before = omega (arith, is.low);
        from = from;
        to = to;
      }

pub date_is_at : (days : ℕ) → 719162 ≤ days → days ≤ 768872 → IsDateAt days (date_at days)
unfolding date_at
date_is_at days least most = at (year_at days) (is_last days_before_year days 136 1970 2107 refl (omega arith) (omega arith)) where
  at : (year : ℕ) → IsLast days_before_year days 1970 136 year → IsDateAt days (date_in year (days - days_before_year year))
  at year is =
      let long = year_length year (omega (arith, is.least)) in
      let sums : days_before_year year + (days - days_before_year year) ≡ days = omega (arith, is.low) in
      subst (λ (n : ℕ). IsDateAt n (date_in year (days - days_before_year year))) sums (in_year year (days - days_before_year year) is.least (omega (arith, is.most)) (omega (arith, long, is.low, is.high)))

-- a date that was counted is the one
pub found_date : (d : Day) (days : ℕ) → days ≤ 49710 → is_date d ≡ true → 1970 ≤ d.year → days_before d ≡ 719162 + days → d ≡ date_at (719162 + days)
found_date d days few date from counted =
    one (date_at (719162 + days)) (date_is_at (719162 + days) (omega arith) (omega arith)) where
      one : (k : Day) → IsDateAt (719162 + days) k → d ≡ k
      one k is =
          let same = same_day d.year d.month d.day k.year k.month k.day (is_day d (omega arith) date) (is_day k (omega (arith, is.from)) is.date) (counted ∙ sym is.days_before) in
          λ i. record { year = same.0 i; month = same.1 i; day = same.2 i }
