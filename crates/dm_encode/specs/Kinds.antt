-- The type code and metadata that a table map has for each kind (MySQL's manual of internals, "TABLE_MAP_EVENT").
use Rattle.std.specs.Prelude.{ℕ, ◌+◌, ◌-◌, ◌*◌, ◌/◌, ◌%◌, Bool, true, ◌&&◌, nat_le, nat_lt, List}
use Rattle.dm_schema.specs.declared.column.Kind.{Kind}
use Rattle.dm_schema.specs.declared.column.Kind.TheVariants as kind
use Rattle.dm_schema.specs.Kinds.{is_kind}
use Rattle.dm_binlog.specs.declared.bodies.ColumnMap.{ColumnMap}
use Rattle.dm_binlog.specs.Bodies.{meta_width}
use Rattle.dm_decode.specs.Types.{integer_code}
use Rattle.dm_encode.specs.Numbers.{le_bytes}

-- a code with its metadata
abbrev pub coded : ℕ → ℕ → ColumnMap
coded code meta = record { code = code; meta = meta }

-- The first byte is MYSQL_TYPE_STRING, in whose bits 0x30 the bits 8 and 9 of the greatest length stand inverted; the
-- second byte has the length's lower bits.
abbrev pub string_meta : ℕ → ℕ
string_meta most = (254 - 16 * (most / 256)) + 256 * (most % 256)

-- Lengths are in bytes: a character of CHAR and VARCHAR has up to four.
abbrev pub column_map : Kind → ColumnMap
column_map (kind.Signed size) = coded (integer_code size) 0
column_map (kind.Unsigned size) = coded (integer_code size) 0
column_map (kind.Decimal precision scale) = coded 246 (precision + 256 * scale)
column_map (kind.Char most) = coded 254 (string_meta (4 * most))
column_map (kind.Varchar most) = coded 15 (4 * most)
column_map (kind.Text prefix) = coded 252 prefix
column_map (kind.Binary size) = coded 254 (string_meta size)
column_map (kind.Varbinary most) = coded 15 most
column_map (kind.Blob prefix) = coded 252 prefix
column_map kind.Date = coded 10 0
column_map kind.Year = coded 13 0
column_map (kind.Datetime digits) = coded 18 digits
column_map (kind.Timestamp digits) = coded 17 digits

-- metadata in as many bytes as their code has, the lower half first
abbrev pub metadata_bytes : ColumnMap → List ℕ
metadata_bytes map = le_bytes (meta_width map.code) map.meta

-- VARCHAR has at most 16,383 characters: the greatest length in bytes has 16 bits.
abbrev pub has_map : Kind → Bool
has_map (kind.Varchar most) = nat_le most 16383
has_map k = true

-- the kind's numbers are in range, and its metadata have 16 bits
abbrev pub is_mapped : Kind → Bool
is_mapped k = is_kind k && nat_lt (column_map k).meta 65536
