-- Civil times of the Gregorian calendar in UTC, and how many seconds after 1970-01-01 00:00:00 they are.
use Rattle.std.specs.Prelude.{ℕ, zero, suc, ◌+◌, ◌-◌, ◌*◌, ◌/◌, ◌%◌, nat_lt, nat_le, Bool, not, ◌&&◌, ◌||◌, ◌==◌, [], ◌∷◌, map, sum, if◌then◌else◌}
use Rattle.std.specs.List.{list_any, range_with_len}
use Rattle.dm_value.specs.declared.value.Day.{Day}
use Rattle.dm_value.specs.declared.value.Moment.{Moment}
use Rattle.dm_value.specs.declared.value.Stamp.{Stamp}
use Rattle.dm_schema.specs.Kinds.{is_between}

abbrev pub is_leap : ℕ → Bool
is_leap year = year % 4 == 0 && (not (year % 100 == 0) || year % 400 == 0)

abbrev pub days_in_month : ℕ → ℕ → ℕ
days_in_month year month =
    if month == 2 then (if is_leap year then 29 else 28)
    else if list_any (λ m. m == month) (4 ∷ 6 ∷ 9 ∷ 11 ∷ []) then 30
    else 31

-- a day that the calendar has
abbrev pub is_date : Day → Bool
is_date d = is_between 1 12 d.month && is_between 1 (days_in_month d.year d.month) d.day

abbrev pub is_civil : Moment → Bool
is_civil m = is_date m.day && nat_le m.hour 23 && nat_le m.minute 59 && nat_le m.second 59

-- the days of the years from 1 on before this one
abbrev pub days_before_year : ℕ → ℕ
days_before_year year = 365 * (year - 1) + (year - 1) / 4 + (year - 1) / 400 - (year - 1) / 100

abbrev pub days_before_month : ℕ → ℕ → ℕ
days_before_month year month = sum (map (days_in_month year) (range_with_len 1 (month - 1)))

-- the days from the first of the year 1 on before this one
abbrev pub days_before : Day → ℕ
days_before d = days_before_year d.year + days_before_month d.year d.month + (d.day - 1)

-- 1970-01-01
abbrev pub epoch : Day
epoch = record { year = 1970; month = 1; day = 1 }

-- the seconds of a civil time since 1970-01-01 00:00:00, from which on they are counted
abbrev pub seconds_of : Moment → ℕ
seconds_of m = 86400 * (days_before m.day - days_before epoch) + 3600 * m.hour + 60 * m.minute + m.second

-- Of a place and so many behind it, the last that has at most n before it.
unfoldable pub last_place : (ℕ → ℕ) → ℕ → ℕ → ℕ → ℕ
last_place before n zero place = place
last_place before n (suc count) place = if nat_lt n (before (place + 1)) then place else last_place before n count (place + 1)

-- the year of 1970 to 2106 in which the day lies that has so many days before it
abbrev pub year_at : ℕ → ℕ
year_at days = last_place days_before_year days 136 1970

-- the month in which the day lies that has so many days of its year before it
abbrev pub month_at : ℕ → ℕ → ℕ
month_at year days = last_place (days_before_month year) days 11 1

abbrev pub date_in : ℕ → ℕ → Day
date_in year days = record { year = year; month = month_at year days; day = days - days_before_month year (month_at year days) + 1 }

-- the date that has so many days before it, from 1970 to 2106
unfoldable pub date_at : ℕ → Day
date_at days = date_in (year_at days) (days - days_before_year (year_at days))

-- the civil time so many seconds after 1970-01-01 00:00:00, as long as 32 bits count them
abbrev pub civil_moment : ℕ → ℕ → Moment
civil_moment seconds micros =
    record {
      day = date_at (days_before epoch + seconds / 86400);
      hour = seconds % 86400 / 3600;
      minute = seconds % 86400 / 60 % 60;
      second = seconds % 86400 % 60;
      micros = micros;
    }

-- `0000-00-00 00:00:00`
abbrev pub zero_moment : Moment
zero_moment = record { day = record { year = 0; month = 0; day = 0 }; hour = 0; minute = 0; second = 0; micros = 0 }

-- The moment of a TIMESTAMP in UTC. Seconds 0 stand for the zero moment.
abbrev pub moment_in_utc : Stamp → Moment
moment_in_utc s = if s.seconds == 0 then zero_moment else civil_moment s.seconds s.micros
