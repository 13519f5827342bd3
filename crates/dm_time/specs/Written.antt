-- The bytes of moments, as they are written.
use Rattle.std.specs.Prelude.{ℕ, zero, suc, ◌+◌, ◌-◌, ◌/◌, ◌%◌, ◌^◌, ◌==◌, List, [], ◌∷◌, ◌++◌, codes, if◌then◌else◌}
use Rattle.dm_value.specs.declared.value.Day.{Day}
use Rattle.dm_value.specs.declared.value.Moment.{Moment}
use Rattle.dm_value.specs.declared.value.Stamp.{Stamp}
use Rattle.dm_time.specs.Civil.{moment_in_utc}

-- the last so many digits of a number in base ten, zeros in front
abbrev pub digits_of : ℕ → ℕ → List ℕ
digits_of zero number = []
digits_of (suc count) number = digits_of count (number / 10) ++ (48 + number % 10) ∷ []

abbrev pub day_text : Day → List ℕ
day_text d = digits_of 4 d.year ++ codes "-" ++ digits_of 2 d.month ++ codes "-" ++ digits_of 2 d.day

abbrev pub time_text : Moment → List ℕ
time_text m = digits_of 2 m.hour ++ codes ":" ++ digits_of 2 m.minute ++ codes ":" ++ digits_of 2 m.second

-- so many digits of a fraction, with its point
abbrev pub fraction_text : ℕ → ℕ → List ℕ
fraction_text digits micros = if digits == 0 then [] else codes "." ++ digits_of digits (micros / 10 ^ (6 - digits))

abbrev pub moment_text : ℕ → Moment → List ℕ
moment_text digits m = day_text m.day ++ codes " " ++ time_text m ++ fraction_text digits m.micros

-- a TIMESTAMP in UTC, with so many digits of the fraction
abbrev pub stamp_text : ℕ → Stamp → List ℕ
stamp_text digits s = moment_text digits (moment_in_utc s)
