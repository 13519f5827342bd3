-- The bytes of a value in a row image, by the kind of its column (MySQL's manual of internals, "ROWS_EVENT").
use Rattle.std.specs.Prelude.{ℕ, ℤ, pos, int_lt, unsigned_abs, ◌+◌, ◌-◌, ◌*◌, ◌/◌, ◌^◌, ◌==◌, List, [], ◌++◌, length, if◌then◌else◌}
use Rattle.dm_value.specs.declared.value.Value.{Value}
use Rattle.dm_value.specs.declared.value.Value.TheVariants as value
use Rattle.dm_value.specs.declared.value.Day.{Day}
use Rattle.dm_value.specs.declared.value.Moment.{Moment}
use Rattle.dm_schema.specs.declared.column.Kind.{Kind}
use Rattle.dm_schema.specs.declared.column.Kind.TheVariants as kind
use Rattle.dm_decode.specs.Types.{prefix_width}
use Rattle.dm_decode.specs.Values.{fraction_width, moment_offset}
use Rattle.dm_encode.specs.Numbers.{be_bytes, le_bytes}
use Rattle.dm_encode.specs.Decimals.{spelled_decimal}

-- a number in two's complement, of so many bytes
abbrev pub twos_complement : ℕ → ℤ → ℕ
twos_complement size n = if int_lt n (pos 0) then 2 ^ (8 * size) - unsigned_abs n else unsigned_abs n

-- The bytes of a length prefix: those that TEXT and BLOB kinds name; else one where the greatest length in bytes is
-- below 256, and two above. A character has up to four bytes.
abbrev pub prefix_of : Kind → ℕ
prefix_of (kind.Char most) = prefix_width (4 * most)
prefix_of (kind.Varchar most) = prefix_width (4 * most)
prefix_of (kind.Text prefix) = prefix
prefix_of (kind.Binary size) = prefix_width size
prefix_of (kind.Varbinary most) = prefix_width most
prefix_of (kind.Blob prefix) = prefix
prefix_of k = 0

-- bytes behind their length
abbrev pub behind_length : ℕ → List ℕ → List ℕ
behind_length width bytes = le_bytes width (length bytes) ++ bytes

-- a year counts from 1900, or is 0
abbrev pub year_number : ℕ → ℕ
year_number year = if year == 0 then 0 else year - 1900

-- day 5 bits, month 4 bits, year 15 bits, from the lowest
abbrev pub day_number : Day → ℕ
day_number d = d.day + 2 ^ 5 * d.month + 2 ^ 9 * d.year

-- from the lowest: second 6 bits, minute 6, hour 5, day 5, and 13 times the year plus the month
abbrev pub moment_number : Moment → ℕ
moment_number m = m.second + 2 ^ 6 * m.minute + 2 ^ 12 * m.hour + 2 ^ 17 * m.day.day + 2 ^ 22 * (13 * m.day.year + m.day.month)

-- microseconds, in units of 10000, of 100 or of 1, by the digits of the fraction
unfoldable pub fraction : ℕ → ℕ → List ℕ
fraction digits micros = be_bytes (fraction_width digits) (micros / 100 ^ (3 - fraction_width digits))

-- the bytes of a value that isn't NULL; a value of another kind has none
abbrev pub spelled_value : Kind → Value → List ℕ
spelled_value (kind.Signed size) (value.Int n) = le_bytes size (twos_complement size n)
spelled_value (kind.Unsigned size) (value.Int n) = le_bytes size (unsigned_abs n)
spelled_value (kind.Decimal precision scale) (value.Dec d) = spelled_decimal precision scale d.digits
spelled_value (kind.Char most) (value.Bytes bytes) = behind_length (prefix_of (kind.Char most)) bytes
spelled_value (kind.Varchar most) (value.Bytes bytes) = behind_length (prefix_of (kind.Varchar most)) bytes
spelled_value (kind.Text prefix) (value.Bytes bytes) = behind_length (prefix_of (kind.Text prefix)) bytes
spelled_value (kind.Binary size) (value.Bytes bytes) = behind_length (prefix_of (kind.Binary size)) bytes
spelled_value (kind.Varbinary most) (value.Bytes bytes) = behind_length (prefix_of (kind.Varbinary most)) bytes
spelled_value (kind.Blob prefix) (value.Bytes bytes) = behind_length (prefix_of (kind.Blob prefix)) bytes
spelled_value kind.Date (value.Date d) = le_bytes 3 (day_number d)
spelled_value kind.Year (value.Int n) = le_bytes 1 (year_number (unsigned_abs n))
spelled_value (kind.Datetime digits) (value.Moment m) = be_bytes 5 (moment_offset + moment_number m) ++ fraction digits m.micros
spelled_value (kind.Timestamp digits) (value.Stamp s) = be_bytes 4 s.seconds ++ fraction digits s.micros
spelled_value k v = []
