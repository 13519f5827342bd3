-- Texts of days and moments: `YYYY-MM-DD`, and `YYYY-MM-DD hh:mm:ss` with a fraction of seconds or without.
use Rattle.std.specs.Prelude.{◌≡◌, ℕ, ◌+◌, ◌-◌, ◌*◌, nat_le, Bool, ◌&&◌, ◌==◌, List, [], ◌∷◌, ◌++◌, fold, take, drop, length, replicate, codes, Option, Some, None, option_and_then, if◌then◌else◌}
use Rattle.std.specs.Option.{option_map}
use Rattle.std.specs.List.{list_all}
use Rattle.std.specs.Cmp.Lexicographic.{pointwise}
use Rattle.dm_value.specs.declared.value.Day.{Day}
use Rattle.dm_value.specs.declared.value.Moment.{Moment}
use Rattle.dm_value.specs.declared.value.Stamp.{Stamp}
use Rattle.dm_schema.specs.Kinds.{is_between}
use Rattle.dm_time.specs.Civil.{is_civil, seconds_of}

-- a number with a further ASCII digit behind it
abbrev pub with_digit : ℕ → ℕ → ℕ
with_digit n d = 10 * n + (d - 48)

-- the number that ASCII digits write in base ten
abbrev pub number_of : List ℕ → ℕ
number_of digits = fold with_digit 0 digits

-- a text of a shape, in which each 0 stands for a digit
abbrev pub has_shape : List ℕ → List ℕ → Bool
has_shape shape text = pointwise (λ s b. if s == 48 then is_between 48 57 b else b == s) shape text

-- the number that so many digits from a place on write
abbrev pub part : ℕ → ℕ → List ℕ → ℕ
part from count text = number_of (take count (drop from text))

-- the day that a text begins with
abbrev pub day_at_front : List ℕ → Day
day_at_front text = record { year = part 0 4 text; month = part 5 2 text; day = part 8 2 text }

abbrev pub day_of : List ℕ → Option Day
day_of text = if has_shape (codes "0000-00-00") text then Some (day_at_front text) else None

-- Microseconds from a point and at most so many digits; without a point there are none. Where the digits are fewer than
-- six, zeros come behind them.
abbrev pub micros_of : ℕ → List ℕ → Option ℕ
micros_of most [] = Some 0
micros_of most (point ∷ digits) =
    if point == 46 && nat_le (length digits) most && list_all (is_between 48 57) digits then Some (number_of (digits ++ replicate (6 - length digits) 48))
    else None

abbrev pub moment_of : ℕ → List ℕ → Option Moment
moment_of most text =
    if has_shape (codes "0000-00-00 00:00:00") (take 19 text)
    then option_map (λ micros. record { day = day_at_front text; hour = part 11 2 text; minute = part 14 2 text; second = part 17 2 text; micros = micros }) (micros_of most (drop 19 text))
    else None

abbrev pub is_zero_moment : Moment → Bool
is_zero_moment m = m.day.year == 0 && m.day.month == 0 && m.day.day == 0 && m.hour == 0 && m.minute == 0 && m.second == 0 && m.micros == 0

-- from 1970-01-01 00:00:01 on, as long as 31 bits count the seconds
abbrev pub is_stamp_moment : Moment → Bool
is_stamp_moment m = is_civil m && nat_le 1970 m.day.year && is_between 1 2147483647 (seconds_of m)

-- `0000-00-00 00:00:00` has the seconds 0, and no other moment has
abbrev pub stamp_at : Moment → Option Stamp
stamp_at m =
    if is_zero_moment m then Some (record { seconds = 0; micros = 0 })
    else if is_stamp_moment m then Some (record { seconds = seconds_of m; micros = m.micros })
    else None

-- a moment in UTC
abbrev pub stamp_of : ℕ → List ℕ → Option Stamp
stamp_of most text = option_and_then stamp_at (moment_of most text)

-- the bytes of a fraction of so many digits, with its point
abbrev pub fraction_length : ℕ → ℕ
fraction_length digits = if digits == 0 then 0 else 1 + digits

-- The text of a stamp is the one that is read as it, and has all digits of the fraction.
pub record IsTextOf (stamp : Stamp) (digits : ℕ) (text : List ℕ) : Type 0 where
  pub read : stamp_of digits text ≡ Some stamp
  pub whole : length text ≡ 19 + fraction_length digits
