-- Events, field by field as MySQL's manual of internals gives them. Numbers have their lowest byte first.
use Rattle.std.specs.Prelude.{ℕ, ◌+◌, ◌==◌, true, List, [], ◌∷◌, ◌++◌, length, map, replicate, if◌then◌else◌}
use Rattle.std.specs.List.{concat, flat_map, list_any, range_with_len}
use Rattle.dm_value.specs.declared.value.Value.{Value}
use Rattle.dm_schema.specs.declared.column.Column.{Column}
use Rattle.dm_schema.specs.declared.row_change.RowChange.{RowChange}
use Rattle.dm_schema.specs.declared.row_change.RowChange.TheVariants as change
use Rattle.dm_schema.specs.Layout.{Layout}
use Rattle.dm_binlog.specs.declared.bodies.ColumnMap.{ColumnMap}
use Rattle.dm_binlog.specs.Framing.{header_length}
use Rattle.dm_binlog.specs.declared.event.TheConstants.{DELETE_ROWS, FORMAT_DESCRIPTION, QUERY, TABLE_MAP, UPDATE_ROWS, WRITE_ROWS}
use Rattle.dm_encode.specs.Numbers.{le_bytes, lenenc_bytes}
use Rattle.dm_encode.specs.Bitmaps.{bitmap}
use Rattle.dm_encode.specs.Kinds.{column_map, metadata_bytes}
use Rattle.dm_encode.specs.Rows.{row_image}

-- so many 0 bytes, as which numbers of 0 and whatever isn't read are written
abbrev pub zeros : ℕ → List ℕ
zeros width = replicate width 0

-- timestamp, type, server id, size of the event, position of the next one, flags
abbrev pub header : ℕ → ℕ → List ℕ
header kind size = concat (zeros 4 ∷ (kind ∷ []) ∷ zeros 4 ∷ le_bytes 4 size ∷ zeros 4 ∷ zeros 2 ∷ [])

-- an event of a type, with this body
abbrev pub event : ℕ → List ℕ → List ℕ
event kind body = header kind (header_length + length body) ++ body

-- FORMAT_DESCRIPTION_EVENT

-- how many bytes of fixed fields the body of a type begins with: those of the types that are written or read, and 0 for
-- all others
abbrev pub fixed_length : ℕ → ℕ
fixed_length kind =
    if kind == 2 then 13
    else if list_any (λ k. k == kind) (19 ∷ 23 ∷ 24 ∷ 25 ∷ []) then 8
    else if list_any (λ k. k == kind) (30 ∷ 31 ∷ 32 ∷ []) then 10
    else 0

-- one of each type from 1 to 38
abbrev pub post_header_lengths : List ℕ
post_header_lengths = map fixed_length (range_with_len 1 38)

-- version, the server's version, time of creation, the header's length, post-header lengths, the algorithm of
-- checksums, a checksum
abbrev pub format_body : List ℕ
format_body = concat (le_bytes 2 4 ∷ zeros 50 ∷ zeros 4 ∷ (header_length ∷ []) ∷ post_header_lengths ∷ zeros 1 ∷ zeros 4 ∷ [])

abbrev pub format_event : List ℕ
format_event = event FORMAT_DESCRIPTION format_body

-- QUERY_EVENT

-- thread id, execution time, length of the schema, error code, length of the status variables, which there are none of,
-- schema, a 0 byte, statement
abbrev pub query_body : List ℕ → List ℕ → List ℕ
query_body db statement = concat (zeros 4 ∷ zeros 4 ∷ le_bytes 1 (length db) ∷ zeros 2 ∷ zeros 2 ∷ db ∷ zeros 1 ∷ statement ∷ [])

abbrev pub query_event : List ℕ → List ℕ → List ℕ
query_event db statement = event QUERY (query_body db statement)

-- TABLE_MAP_EVENT

-- a name behind its length, with a 0 byte behind it
abbrev pub counted : List ℕ → List ℕ
counted name = concat (le_bytes 1 (length name) ∷ name ∷ zeros 1 ∷ [])

-- the type code of each column
abbrev pub codes_of : List Column → List ℕ
codes_of columns = map (λ c. (column_map c.kind).code) columns

-- the metadata of each column, one behind another
abbrev pub metadata_of : List Column → List ℕ
metadata_of columns = flat_map (λ c. metadata_bytes (column_map c.kind)) columns

-- the flags of map and rows bodies
abbrev pub flags : List ℕ
flags = le_bytes 2 1

-- column count, a type code for each column, metadata behind their length, a bit for each nullable column
abbrev pub columns_body : List Column → List ℕ
columns_body columns = concat (lenenc_bytes (length columns) ∷ codes_of columns ∷ lenenc_bytes (length (metadata_of columns)) ∷ metadata_of columns ∷ bitmap (map (λ c. c.nullable) columns) ∷ [])

-- table id, flags, schema, table, columns
abbrev pub map_body : ℕ → List ℕ → List ℕ → Layout → List ℕ
map_body id db table layout = concat (le_bytes 6 id ∷ flags ∷ counted db ∷ counted table ∷ columns_body layout.columns ∷ [])

abbrev pub map_event : ℕ → List ℕ → List ℕ → Layout → List ℕ
map_event id db table layout = event TABLE_MAP (map_body id db table layout)

-- the column maps of the schema's columns
abbrev pub maps_of : List Column → List ColumnMap
maps_of columns = map (λ c. column_map c.kind) columns

-- ROWS_EVENT, of version 2

-- WRITE_ROWS_EVENT, UPDATE_ROWS_EVENT or DELETE_ROWS_EVENT
abbrev pub rows_kind : RowChange → ℕ
rows_kind (change.Insert row) = WRITE_ROWS
rows_kind (change.Update old new) = UPDATE_ROWS
rows_kind (change.Delete row) = DELETE_ROWS

-- the rows whose images an event has, the old one before the new
abbrev pub rows_of : RowChange → List (List Value)
rows_of (change.Insert row) = row ∷ []
rows_of (change.Update old new) = old ∷ new ∷ []
rows_of (change.Delete row) = row ∷ []

-- each column is present
abbrev pub present : List Column → List ℕ
present columns = bitmap (map (λ c. true) columns)

-- an update has a second bitmap, of the new image
abbrev pub second_present : RowChange → List Column → List ℕ
second_present (change.Insert row) columns = []
second_present (change.Update old new) columns = present columns
second_present (change.Delete row) columns = []

-- table id, flags, the length of the extra data, which is its own two bytes, column count, bitmaps of the columns that
-- are present
abbrev pub rows_front : ℕ → List Column → RowChange → List ℕ
rows_front id columns change = concat (le_bytes 6 id ∷ flags ∷ le_bytes 2 2 ∷ lenenc_bytes (length columns) ∷ present columns ∷ second_present change columns ∷ [])

-- the images of these rows
abbrev pub images : List Column → RowChange → List ℕ
images columns change = flat_map (row_image columns) (rows_of change)

-- the images stand behind all else
abbrev pub rows_body : ℕ → Layout → RowChange → List ℕ
rows_body id layout change = rows_front id layout.columns change ++ images layout.columns change

abbrev pub rows_event : ℕ → Layout → RowChange → List ℕ
rows_event id layout change = event (rows_kind change) (rows_body id layout change)
