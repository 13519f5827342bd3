-- Known bytes: what the definitions spell is what a server writes.
use Rattle.std.proofs.Common.{◌≡◌, ℕ, List, [], ◌∷◌, ◌++◌, map, replicate, pos, negsuc, true, false, refl}
use Rattle.dm_schema.specs.declared.column.Kind.{Kind}
use Rattle.dm_schema.specs.declared.column.Kind.TheVariants as kind
use Rattle.dm_value.specs.declared.value.Value.TheVariants as value
use Rattle.dm_encode.specs.Numbers.{be_bytes, le_bytes, lenenc_bytes}
use Rattle.dm_encode.specs.Bitmaps.{bitmap}
use Rattle.dm_encode.specs.Kinds.{column_map, metadata_bytes}
use Rattle.dm_encode.specs.Decimals.{spelled_decimal}
use Rattle.dm_encode.specs.Values.{fraction, spelled_value}

one_byte : lenenc_bytes 250 ≡ 0xfa ∷ []
unfolding le_bytes
one_byte = refl

two_bytes : lenenc_bytes 251 ≡ 0xfc ∷ 0xfb ∷ 0x00 ∷ []
unfolding le_bytes
two_bytes = refl

three_bytes : lenenc_bytes 65536 ≡ 0xfd ∷ 0x00 ∷ 0x00 ∷ 0x01 ∷ []
unfolding le_bytes
three_bytes = refl

-- DECIMAL(14,4)
positive : spelled_decimal 14 4 (pos 12345678901234) ≡ 0x81 ∷ 0x0d ∷ 0xfb ∷ 0x38 ∷ 0xd2 ∷ 0x04 ∷ 0xd2 ∷ []
unfolding be_bytes
positive = refl

negative : spelled_decimal 14 4 (negsuc 12345678901233) ≡ 0x7e ∷ 0xf2 ∷ 0x04 ∷ 0xc7 ∷ 0x2d ∷ 0xfb ∷ 0x2d ∷ []
unfolding be_bytes
negative = refl

-- DECIMAL(38,10)
least : spelled_decimal 38 10 (negsuc 0) ≡ 0x7f ∷ replicate 16 0xff ++ 0xfe ∷ []
unfolding be_bytes
least = refl

-- 2024-02-29
date : spelled_value kind.Date (value.Date (record { year = 2024; month = 2; day = 29 })) ≡ 0x5d ∷ 0xd0 ∷ 0x0f ∷ []
unfolding le_bytes
date = refl

-- 2024-02-29 23:59:58.123456
moment : spelled_value (kind.Datetime 6) (value.Moment (record { day = record { year = 2024; month = 2; day = 29 }; hour = 23; minute = 59; second = 58; micros = 123456 })) ≡ 0x99 ∷ 0xb2 ∷ 0xbb ∷ 0x7e ∷ 0xfa ∷ 0x01 ∷ 0xe2 ∷ 0x40 ∷ []
unfolding be_bytes fraction
moment = refl

-- 2024-01-01 00:00:00
stamp : spelled_value (kind.Timestamp 0) (value.Stamp (record { seconds = 0x65920080; micros = 0 })) ≡ 0x65 ∷ 0x92 ∷ 0x00 ∷ 0x80 ∷ []
unfolding be_bytes fraction
stamp = refl

year : spelled_value kind.Year (value.Int (pos 2024)) ≡ 0x7c ∷ []
unfolding le_bytes
year = refl

-- CHAR of 300 bytes
long_char : metadata_bytes (column_map (kind.Char 75)) ≡ 0xee ∷ 0x2c ∷ []
unfolding le_bytes
long_char = refl

-- the second of two columns, and the ninth of nine
second_bit : bitmap (false ∷ true ∷ []) ≡ 0x02 ∷ []
unfolding bitmap le_bytes
second_bit = refl

ninth_bit : bitmap (replicate 8 false ++ true ∷ []) ≡ 0x00 ∷ 0x01 ∷ []
unfolding bitmap le_bytes
ninth_bit = refl

-- A table map's type code of each kind with its metadata, as MySQL's manual of internals has them.
abbrev coded : Kind → List ℕ
coded k = (column_map k).code ∷ metadata_bytes (column_map k)

-- MYSQL_TYPE_TINY, SHORT, INT24, LONG and LONGLONG have none
integer_maps : map coded (kind.Signed 1 ∷ kind.Signed 2 ∷ kind.Unsigned 3 ∷ kind.Signed 4 ∷ kind.Unsigned 8 ∷ []) ≡ (1 ∷ []) ∷ (2 ∷ []) ∷ (9 ∷ []) ∷ (3 ∷ []) ∷ (8 ∷ []) ∷ []
unfolding le_bytes
integer_maps = refl

-- NEWDECIMAL has precision and scale: DECIMAL(14,4)
decimal_map : coded (kind.Decimal 14 4) ≡ 0xf6 ∷ 0x0e ∷ 0x04 ∷ []
unfolding le_bytes
decimal_map = refl

-- STRING has its real type and length: CHAR(10) and BINARY(16); VARCHAR has its length: VARCHAR(20) and VARBINARY(300)
string_maps :
    map coded (kind.Char 10 ∷ kind.Binary 16 ∷ kind.Varchar 20 ∷ kind.Varbinary 300 ∷ [])
    ≡ (0xfe ∷ 0xfe ∷ 0x28 ∷ []) ∷ (0xfe ∷ 0xfe ∷ 0x10 ∷ []) ∷ (0x0f ∷ 0x50 ∷ 0x00 ∷ []) ∷ (0x0f ∷ 0x2c ∷ 0x01 ∷ []) ∷ []
unfolding le_bytes
string_maps = refl

-- BLOB has the bytes of its length prefix: TINYTEXT, LONGTEXT, BLOB, MEDIUMBLOB
lob_maps : map coded (kind.Text 1 ∷ kind.Text 4 ∷ kind.Blob 2 ∷ kind.Blob 3 ∷ []) ≡ (0xfc ∷ 1 ∷ []) ∷ (0xfc ∷ 4 ∷ []) ∷ (0xfc ∷ 2 ∷ []) ∷ (0xfc ∷ 3 ∷ []) ∷ []
unfolding le_bytes
lob_maps = refl

-- DATE and YEAR have none, DATETIME2 and TIMESTAMP2 the digits of their fraction
time_maps : map coded (kind.Date ∷ kind.Year ∷ kind.Datetime 6 ∷ kind.Timestamp 3 ∷ []) ≡ (0x0a ∷ []) ∷ (0x0d ∷ []) ∷ (0x12 ∷ 6 ∷ []) ∷ (0x11 ∷ 3 ∷ []) ∷ []
unfolding le_bytes
time_maps = refl
