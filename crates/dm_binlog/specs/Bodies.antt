-- The bodies of events, field by field as MySQL's manual of internals gives them. Numbers have their lowest byte first.
use Rattle.std.specs.Prelude.{ℕ, ◌+◌, ◌-◌, ◌/◌, ◌%◌, ◌^◌, nat_lt, Bool, ◌&&◌, ◌||◌, ◌==◌, List, [], ◌∷◌, length, take, drop, slice_index, Option, Some, None, if◌then◌else◌}
use Rattle.std.specs.Option.{option_map}
use Rattle.std.specs.List.{list_any, list_all, range_with_len}
use Rattle.dm_base.specs.Reading.{Reader, just, failing, ◌>>=◌, piece, le, lenenc, le_value, left_of}
use Rattle.dm_binlog.specs.declared.bodies.ColumnMap.{ColumnMap}
use Rattle.dm_binlog.specs.declared.bodies.TableMap.{TableMap}
use Rattle.dm_binlog.specs.declared.bodies.RowsHead.{RowsHead}
use Rattle.dm_binlog.specs.declared.event.TheConstants.{WRITE_ROWS_V1, UPDATE_ROWS_V1, DELETE_ROWS_V1, WRITE_ROWS, UPDATE_ROWS, DELETE_ROWS}

-- what a body says, read from its first byte on
abbrev pub read_body : {A : Type 0} → Reader A → List ℕ → Option A
read_body reader body = option_map (λ read. read.0) (reader (record { bytes = body; place = 0 }))

-- a 0 byte behind something
abbrev pub closed : {A : Type 0} → A → Reader A
closed x = le 1 >>= λ zero. if zero == 0 then just x else failing

abbrev pub place_now : Reader ℕ
place_now r = Some (r.place, r)

abbrev pub rest : Reader (List ℕ)
rest r = Some (left_of r, record { bytes = r.bytes; place = length r.bytes })

-- the bytes of a bitmap with a bit for each column
abbrev pub bitmap_length : ℕ → ℕ
bitmap_length count = (count + 7) / 8

-- bits count from the lowest of the first byte
abbrev pub is_set : List ℕ → ℕ → Bool
is_set bitmap bit = (slice_index bitmap (bit / 8) / 2 ^ (bit % 8)) % 2 == 1

abbrev pub all_set : ℕ → List ℕ → Bool
all_set count bitmap = list_all (is_set bitmap) (range_with_len 0 count)

-- TABLE_MAP_EVENT

-- The bytes of metadata that a type code has: FLOAT, DOUBLE, TIMESTAMP2, DATETIME2, TIME2, VECTOR, JSON, BLOB and
-- GEOMETRY have one; VARCHAR, BIT, NEWDECIMAL, ENUM, SET, VAR_STRING and STRING have two.
abbrev pub meta_width : ℕ → ℕ
meta_width code =
    if list_any (λ c. c == code) (4 ∷ 5 ∷ 17 ∷ 18 ∷ 19 ∷ 242 ∷ 245 ∷ 252 ∷ 255 ∷ []) then 1
    else if list_any (λ c. c == code) (15 ∷ 16 ∷ 246 ∷ 247 ∷ 248 ∷ 253 ∷ 254 ∷ []) then 2
    else 0

-- each code with its metadata; none where there is too little of it
abbrev pub column_maps : List ℕ → List ℕ → Option (List ColumnMap)
column_maps [] metadata = Some []
column_maps (code ∷ codes) metadata =
    if nat_lt (length metadata) (meta_width code) then None
    else option_map (λ columns. (record { code = code; meta = le_value (take (meta_width code) metadata) }) ∷ columns) (column_maps codes (drop (meta_width code) metadata))

-- a name behind its length, with a 0 byte behind it
abbrev pub counted_name : Reader (List ℕ)
counted_name = le 1 >>= λ length. piece length >>= λ name. closed name

-- what isn't there fails
abbrev pub some_of : {A : Type 0} → Option A → Reader A
some_of None = failing
some_of (Some x) = just x

-- table id, flags, schema, table, column count, a type code for each column, metadata, a bitmap of nullable columns
abbrev pub table_map : Reader TableMap
table_map =
    le 6 >>= λ id.
    le 2 >>= λ flags.
    counted_name >>= λ db.
    counted_name >>= λ table.
    lenenc >>= λ count.
    piece count >>= λ codes.
    lenenc >>= λ meta_length.
    piece meta_length >>= λ metadata.
    piece (bitmap_length count) >>= λ nullable.
    some_of (column_maps codes metadata) >>= λ columns.
    just (record { id = id; db = db; table = table; columns = columns })

abbrev pub table_map_of : List ℕ → Option TableMap
table_map_of = read_body table_map

-- QUERY_EVENT

-- a statement, and the schema that it was written in
pub record QueryText : Type 0 where
  pub db : List ℕ
  pub statement : List ℕ

-- thread id, execution time, length of the schema, error code, length of the status variables, status variables,
-- schema, a 0 byte, statement
abbrev pub query : Reader QueryText
query =
    le 4 >>= λ thread.
    le 4 >>= λ time.
    le 1 >>= λ db_length.
    le 2 >>= λ error.
    le 2 >>= λ status_length.
    piece status_length >>= λ status.
    piece db_length >>= λ name.
    closed name >>= λ db.
    rest >>= λ statement.
    just (record { db = db; statement = statement })

abbrev pub query_of : List ℕ → Option QueryText
query_of = read_body query

-- ROWS_EVENT

abbrev pub is_rows_v1 : ℕ → Bool
is_rows_v1 kind = kind == WRITE_ROWS_V1 || kind == UPDATE_ROWS_V1 || kind == DELETE_ROWS_V1

abbrev pub is_rows_v2 : ℕ → Bool
is_rows_v2 kind = kind == WRITE_ROWS || kind == UPDATE_ROWS || kind == DELETE_ROWS

abbrev pub is_update : ℕ → Bool
is_update kind = kind == UPDATE_ROWS_V1 || kind == UPDATE_ROWS

-- extra data, whose length counts its own two bytes
abbrev pub extra_data : Reader (List ℕ)
extra_data = le 2 >>= λ length. if nat_lt length 2 then failing else piece (length - 2)

-- version 2 has extra data behind the flags
abbrev pub version_of : ℕ → Reader (List ℕ)
version_of kind = if is_rows_v1 kind then just [] else if is_rows_v2 kind then extra_data else failing

-- an update has a second bitmap, of the new image
abbrev pub second_bitmap : ℕ → ℕ → List ℕ → Reader (List ℕ)
second_bitmap kind count first = if is_update kind then piece (bitmap_length count) else just first

-- table id, flags, extra data, column count, a bitmap of the columns that are present, rows
abbrev pub rows_head : ℕ → Reader RowsHead
rows_head kind =
    le 6 >>= λ id.
    le 2 >>= λ flags.
    version_of kind >>= λ extra.
    lenenc >>= λ count.
    piece (bitmap_length count) >>= λ present.
    second_bitmap kind count present >>= λ after.
    place_now >>= λ rows.
    just (record { id = id; count = count; full = all_set count present && all_set count after; rows = rows })

abbrev pub rows_head_of : ℕ → List ℕ → Option RowsHead
rows_head_of kind = read_body (rows_head kind)
