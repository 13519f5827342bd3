-- Sums of days.
use Rattle.std.proofs.Common.{◌≡◌, ℕ, true, ◌&&◌, ◌+◌, ◌-◌, ◌≤◌, map, sum, ap, ◌∙◌, arith}
use Rattle.std.specs.List.{range_with_len}
use Rattle.std.proofs.lemmas.Bool.Decides.{nat_tests}
use Rattle.std.proofs.lemmas.List.FromFn.{sum_by-map-range_with_len_more}
use Rattle.dm_schema.specs.Kinds.{is_between}
use Rattle.dm_time.specs.Civil.{is_date, days_in_month, days_before_year, days_before_month}

-- one more month
pub month_more : (year before : ℕ) → 1 ≤ before → days_before_month year (before + 1) ≡ days_before_month year before + days_in_month year before
month_more year before some =
    ap (λ n. sum (map (days_in_month year) (range_with_len 1 n))) (let e : before + 1 - 1 ≡ before - 1 + 1 = omega arith in e) ∙ sum_by-map-range_with_len_more (λ x. x) (days_in_month year) 1 (before - 1) before (omega arith)

-- a date by its parts
pub is_date_from : (year month day : ℕ) → 1 ≤ month → month ≤ 12 → 1 ≤ day → day ≤ days_in_month year month → is_date (record { year = year; month = month; day = day }) ≡ true
is_date_from year month day first last some most = whole month day (days_in_month year month) first last some most where
  whole : (month day length : ℕ) → 1 ≤ month → month ≤ 12 → 1 ≤ day → day ≤ length → (is_between 1 12 month && is_between 1 length day) ≡ true
  whole month day length first last some most = grind (arith, nat_tests)

-- the days of a year are those of its months
pub year_length : (year : ℕ) → 1 ≤ year → days_before_year year + days_before_month year 13 ≡ days_before_year (year + 1)
year_length year some = grind (arith, nat_tests)
