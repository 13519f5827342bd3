-- The bytes of a value in a row image, and the value that they are, by the kind of its column.
use Rattle.std.specs.Prelude.{ℕ, ℤ, pos, neg_ℤ, ◌+◌, ◌-◌, ◌*◌, ◌/◌, ◌%◌, ◌^◌, nat_lt, Bool, true, false, ◌==◌, List, ◌++◌, length, take, drop, replicate, Option, Some, None, Result, Ok, Err, if◌then◌else◌}
use Rattle.std.specs.List.{suffix_len}
use Rattle.dm_value.specs.declared.value.Value.{Value}
use Rattle.dm_value.specs.declared.value.Value.TheVariants as value
use Rattle.dm_value.specs.declared.value.Day.{Day}
use Rattle.dm_value.specs.declared.value.Moment.{Moment}
use Rattle.dm_value.specs.declared.value.Stamp.{Stamp}
use Rattle.dm_schema.specs.declared.column.Kind.{Kind}
use Rattle.dm_schema.specs.declared.column.Kind.TheVariants as kind
use Rattle.dm_schema.specs.Fits.{fits_kind}
use Rattle.dm_base.specs.Reading.{Reader, ◌>>=◌, piece, le, le_value, be_value}
use Rattle.dm_binlog.specs.declared.bodies.ColumnMap.{ColumnMap}
use Rattle.dm_decode.specs.declared.flaw.Flaw.{Flaw}
use Rattle.dm_decode.specs.declared.flaw.Flaw.TheVariants as flaw
use Rattle.dm_decode.specs.Types.{prefix_width, string_length}
use Rattle.dm_decode.specs.Decimals.{decimal_width, decimal_of}

-- The bytes.

-- bytes behind their length, which has so many bytes
abbrev pub prefixed : ℕ → Reader (List ℕ)
prefixed width = le width >>= λ length. piece length

-- a fraction of so many digits has a byte for each two
abbrev pub fraction_width : ℕ → ℕ
fraction_width digits = (digits + 1) / 2

abbrev pub value_bytes : Kind → ColumnMap → Reader (List ℕ)
value_bytes (kind.Signed size) map = piece size
value_bytes (kind.Unsigned size) map = piece size
value_bytes (kind.Decimal precision scale) map = piece (decimal_width precision scale)
value_bytes (kind.Char most) map = prefixed (prefix_width (string_length map.meta))
value_bytes (kind.Varchar most) map = prefixed (prefix_width map.meta)
value_bytes (kind.Text prefix) map = prefixed prefix
value_bytes (kind.Binary size) map = prefixed (prefix_width (string_length map.meta))
value_bytes (kind.Varbinary most) map = prefixed (prefix_width map.meta)
value_bytes (kind.Blob prefix) map = prefixed prefix
value_bytes kind.Date map = piece 3
value_bytes kind.Year map = piece 1
value_bytes (kind.Datetime digits) map = piece (5 + fraction_width digits)
value_bytes (kind.Timestamp digits) map = piece (4 + fraction_width digits)

-- The values.

-- two's complement of so many bytes
abbrev pub signed_of : ℕ → ℕ → ℤ
signed_of size n = if nat_lt n (2 ^ (8 * size - 1)) then pos n else neg_ℤ (pos (2 ^ (8 * size) - n))

-- a year of 0, or counted from 1900
abbrev pub year_of : ℕ → ℕ
year_of n = if n == 0 then 0 else n + 1900

abbrev pub without_blanks_at_end : List ℕ → List ℕ
without_blanks_at_end bytes = take (length bytes - suffix_len (λ b. b == 32) bytes) bytes

abbrev pub padded : ℕ → List ℕ → List ℕ
padded size bytes = bytes ++ replicate (size - length bytes) 0

-- day 5 bits, month 4 bits, year 15 bits, from the lowest
abbrev pub day_of : ℕ → Day
day_of n = record { year = n / 512; month = (n / 32) % 16; day = n % 32 }

-- microseconds of a fraction, which counts units of 10000, of 100, or of 1
abbrev pub micros_of : ℕ → List ℕ → ℕ
micros_of digits bytes = be_value bytes * 100 ^ (3 - fraction_width digits)

-- From the lowest: second 6 bits, minute 6, hour 5, day 5, and 13 times the year plus the month.
abbrev pub moment_at : ℕ → ℕ → Moment
moment_at n micros = record {
  day = record { year = n / 2 ^ 22 / 13; month = n / 2 ^ 22 % 13; day = n / 2 ^ 17 % 32 };
  hour = n / 2 ^ 12 % 32;
  minute = n / 2 ^ 6 % 64;
  second = n % 64;
  micros = micros;
}

-- the five bytes of a moment are greater by this
abbrev pub moment_offset : ℕ
moment_offset = 0x8000000000

abbrev pub moment_of : ℕ → List ℕ → Option Moment
moment_of digits bytes =
    if nat_lt (be_value (take 5 bytes)) moment_offset then None
    else Some (moment_at (be_value (take 5 bytes) - moment_offset) (micros_of digits (drop 5 bytes)))

abbrev pub stamp_of : ℕ → List ℕ → Stamp
stamp_of digits bytes = record { seconds = be_value (take 4 bytes); micros = micros_of digits (drop 4 bytes) }

abbrev pub or_flaw : {A : Type 0} → Flaw → Option A → (A → Value) → Result Value Flaw
or_flaw e None make = Err e
or_flaw e (Some x) make = Ok (make x)

-- a value that is one of its kind
abbrev pub fitting : Flaw → Kind → Result Value Flaw → Result Value Flaw
fitting unfit k (Err e) = Err e
fitting unfit k (Ok v) = if fits_kind k v then Ok v else Err unfit

-- the value that the bytes are
abbrev pub value_of : Kind → List ℕ → Result Value Flaw
value_of (kind.Signed size) bytes = Ok (value.Int (signed_of size (le_value bytes)))
value_of (kind.Unsigned size) bytes = Ok (value.Int (pos (le_value bytes)))
value_of (kind.Decimal precision scale) bytes = or_flaw flaw.GreatGroup (decimal_of precision scale bytes) value.Dec
value_of (kind.Char most) bytes = Ok (value.Bytes (without_blanks_at_end bytes))
value_of (kind.Varchar most) bytes = Ok (value.Bytes bytes)
value_of (kind.Text prefix) bytes = Ok (value.Bytes bytes)
value_of (kind.Binary size) bytes = Ok (value.Bytes (padded size bytes))
value_of (kind.Varbinary most) bytes = Ok (value.Bytes bytes)
value_of (kind.Blob prefix) bytes = Ok (value.Bytes bytes)
value_of kind.Date bytes = Ok (value.Date (day_of (le_value bytes)))
value_of kind.Year bytes = Ok (value.Int (pos (year_of (le_value bytes))))
value_of (kind.Datetime digits) bytes = or_flaw flaw.NoDate (moment_of digits bytes) value.Moment
value_of (kind.Timestamp digits) bytes = Ok (value.Stamp (stamp_of digits bytes))

-- what a value that isn't one of its kind is called
abbrev pub unfit_flaw : Kind → Flaw
unfit_flaw kind.Date = flaw.NoDate
unfit_flaw (kind.Datetime digits) = flaw.NoDate
unfit_flaw (kind.Timestamp digits) = flaw.NoDate
unfit_flaw k = flaw.NotOfKind

abbrev pub fitting_value : Kind → List ℕ → Result Value Flaw
fitting_value k bytes = fitting (unfit_flaw k) k (value_of k bytes)

abbrev pub is_memory_flaw : Flaw → Bool
is_memory_flaw flaw.GreatGroup = false
is_memory_flaw flaw.NoDate = false
is_memory_flaw flaw.NotOfKind = false
is_memory_flaw flaw.Memory = true
