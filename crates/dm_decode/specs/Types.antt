-- Which type codes and metadata of a table map go with a kind (MySQL's manual of internals, "TABLE_MAP_EVENT").
use Rattle.std.specs.Prelude.{ℕ, ◌+◌, ◌-◌, ◌*◌, ◌/◌, ◌%◌, nat_lt, Bool, ◌&&◌, ◌==◌, if◌then◌else◌}
use Rattle.dm_schema.specs.declared.column.Kind.{Kind}
use Rattle.dm_schema.specs.declared.column.Kind.TheVariants as kind
use Rattle.dm_binlog.specs.declared.bodies.ColumnMap.{ColumnMap}

-- MYSQL_TYPE_TINY, SHORT, INT24, LONG, LONGLONG
abbrev pub integer_code : ℕ → ℕ
integer_code size =
    if size == 1 then 1
    else if size == 2 then 2
    else if size == 3 then 9
    else if size == 4 then 3
    else 8

abbrev pub first_byte : ℕ → ℕ
first_byte meta = meta % 256

abbrev pub second_byte : ℕ → ℕ
second_byte meta = meta / 256

-- the bits 0x30 of a byte, as a number from 0 to 3
abbrev pub length_bits : ℕ → ℕ
length_bits byte = (byte / 16) % 4

-- The first byte of MYSQL_TYPE_STRING's metadata is the real type, where both its bits 0x30 are set; else these bits,
-- inverted, are the length's bits 8 and 9.
abbrev pub real_type : ℕ → ℕ
real_type meta = first_byte meta + 16 * (3 - length_bits (first_byte meta))

abbrev pub string_length : ℕ → ℕ
string_length meta = second_byte meta + 256 * (3 - length_bits (first_byte meta))

abbrev pub is_string : ColumnMap → Bool
is_string map = map.code == 254 && real_type map.meta == 254

-- MYSQL_TYPE_NEWDECIMAL has precision and scale, BLOB the bytes of its length prefix, DATETIME2 and TIMESTAMP2 the digits
-- of their fraction
abbrev pub goes_with : Kind → ColumnMap → Bool
goes_with (kind.Signed size) map = map.code == integer_code size
goes_with (kind.Unsigned size) map = map.code == integer_code size
goes_with (kind.Decimal precision scale) map = map.code == 246 && map.meta == precision + 256 * scale
goes_with (kind.Char most) map = is_string map
goes_with (kind.Varchar most) map = map.code == 15
goes_with (kind.Text prefix) map = map.code == 252 && map.meta == prefix
goes_with (kind.Binary size) map = is_string map
goes_with (kind.Varbinary most) map = map.code == 15
goes_with (kind.Blob prefix) map = map.code == 252 && map.meta == prefix
goes_with kind.Date map = map.code == 10
goes_with kind.Year map = map.code == 13
goes_with (kind.Datetime digits) map = map.code == 18 && map.meta == digits
goes_with (kind.Timestamp digits) map = map.code == 17 && map.meta == digits

-- a length prefix of one byte below 256, else of two
abbrev pub prefix_width : ℕ → ℕ
prefix_width most = if nat_lt most 256 then 1 else 2
