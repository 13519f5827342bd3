-- Which values a column can have.
use Rattle.std.specs.Prelude.{ℕ, ℤ, ◌-◌, ◌*◌, ◌%◌, ◌^◌, pos, neg_ℤ, int_lt, int_le, unsigned_abs, nat_lt, nat_le, ◌==◌, Bool, true, false, not, ◌&&◌, ◌||◌, List, length, slice_index, if◌then◌else◌}
use Rattle.std.specs.Str.{is_utf8}
use Rattle.std.specs.Fmt.{char_count}
use Rattle.dm_value.specs.declared.value.Value.{Value}
use Rattle.dm_value.specs.declared.value.Value.TheVariants as value
use Rattle.dm_value.specs.declared.value.Day.{Day}
use Rattle.dm_value.specs.declared.value.Dec.{Dec}
use Rattle.dm_value.specs.declared.value.Moment.{Moment}
use Rattle.dm_value.specs.declared.value.Stamp.{Stamp}
use Rattle.dm_schema.specs.declared.column.Kind.{Kind}
use Rattle.dm_schema.specs.declared.column.Kind.TheVariants as kind
use Rattle.dm_schema.specs.declared.column.Column.{Column}

-- whether a number is one of a signed integer of so many bytes, in two's complement
abbrev pub fits_signed : ℕ → ℤ → Bool
fits_signed size n = int_le (neg_ℤ (pos (2 ^ (8 * size - 1)))) n && int_lt n (pos (2 ^ (8 * size - 1)))

-- whether a number is one of an unsigned integer of so many bytes
abbrev pub fits_unsigned : ℕ → ℤ → Bool
fits_unsigned size n = int_le (pos 0) n && int_lt n (pos (2 ^ (8 * size)))

-- YEAR has 0 and the years that one byte counts from 1900
abbrev pub fits_year : ℤ → Bool
fits_year n = (int_le (pos 0) n && int_le n (pos 0)) || (int_le (pos 1901) n && int_le n (pos 2155))

-- whether a decimal has the scale, and digits enough for its precision
abbrev pub fits_decimal : ℕ → ℕ → Dec → Bool
fits_decimal precision scale d = d.scale == scale && nat_lt (unsigned_abs d.digits) (10 ^ precision)

-- whether bytes are a text in UTF-8 of at most so many characters
abbrev pub fits_text : ℕ → List ℕ → Bool
fits_text most bytes = is_utf8 bytes && nat_le (char_count bytes) most

-- the last byte is a blank
abbrev pub ends_in_space : List ℕ → Bool
ends_in_space bytes = slice_index bytes (length bytes - 1) == 32

-- each part of a day may be 0
abbrev pub fits_day : Day → Bool
fits_day d = nat_le d.year 9999 && nat_le d.month 12 && nat_le d.day 31

-- microseconds that a fraction of so many digits has
abbrev pub fits_micros : ℕ → ℕ → Bool
fits_micros digits micros = nat_le micros 999999 && micros % 10 ^ (6 - digits) == 0

abbrev pub fits_moment : ℕ → Moment → Bool
fits_moment digits m = fits_day m.day && nat_le m.hour 23 && nat_le m.minute 59 && nat_le m.second 59 && fits_micros digits m.micros

-- seconds 0 stands for the zero moment, which has no fraction
abbrev pub fits_stamp : ℕ → Stamp → Bool
fits_stamp digits s = if s.seconds == 0 then s.micros == 0 else nat_le s.seconds 2147483647 && fits_micros digits s.micros

-- whether a value that isn't NULL is one of a kind
abbrev pub fits_kind : Kind → Value → Bool
fits_kind (kind.Signed size) (value.Int n) = fits_signed size n
fits_kind (kind.Unsigned size) (value.Int n) = fits_unsigned size n
fits_kind (kind.Decimal precision scale) (value.Dec d) = fits_decimal precision scale d
fits_kind (kind.Char most) (value.Bytes bytes) = fits_text most bytes && not (ends_in_space bytes)
fits_kind (kind.Varchar most) (value.Bytes bytes) = fits_text most bytes
fits_kind (kind.Text prefix) (value.Bytes bytes) = is_utf8 bytes && nat_lt (length bytes) (256 ^ prefix)
fits_kind (kind.Binary size) (value.Bytes bytes) = length bytes == size
fits_kind (kind.Varbinary most) (value.Bytes bytes) = nat_le (length bytes) most
fits_kind (kind.Blob prefix) (value.Bytes bytes) = nat_lt (length bytes) (256 ^ prefix)
fits_kind kind.Date (value.Date d) = fits_day d
fits_kind kind.Year (value.Int n) = fits_year n
fits_kind (kind.Datetime digits) (value.Moment m) = fits_moment digits m
fits_kind (kind.Timestamp digits) (value.Stamp s) = fits_stamp digits s
fits_kind k v = false

-- whether a value fits a kind and nullability
abbrev pub fits_by : Kind → Bool → Value → Bool
fits_by k nullable value.Null = nullable
fits_by k nullable (value.Int n) = fits_kind k (value.Int n)
fits_by k nullable (value.Bytes bytes) = fits_kind k (value.Bytes bytes)
fits_by k nullable (value.Dec d) = fits_kind k (value.Dec d)
fits_by k nullable (value.Date d) = fits_kind k (value.Date d)
fits_by k nullable (value.Moment m) = fits_kind k (value.Moment m)
fits_by k nullable (value.Stamp s) = fits_kind k (value.Stamp s)

-- whether a value fits a column
abbrev pub fits : Value → Column → Bool
fits v c = fits_by c.kind c.nullable v
