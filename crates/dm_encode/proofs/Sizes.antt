-- How long events are.
use Rattle.std.proofs.Common.{◌≡◌, ℕ, ◌+◌, ◌*◌, ◌<◌, ◌≤◌, ◌^◌, Bool, true, false, cond, eqb, ltb, leb, List, [], ◌∷◌, length, map, ap, ◌∙◌, sym, arith, length-append}
use Rattle.std.proofs.lemmas.Bool.{leb-true}
use Rattle.dm_schema.specs.declared.column.Column.{Column}
use Rattle.dm_schema.specs.declared.column.Kind.{Kind}
use Rattle.dm_schema.specs.declared.column.Kind.TheVariants as kind
use Rattle.dm_schema.specs.declared.row_change.RowChange.{RowChange}
use Rattle.dm_schema.specs.declared.row_change.RowChange.TheVariants as change
use Rattle.dm_schema.specs.Layout.{Layout}
use Rattle.dm_binlog.specs.Bodies.{bitmap_length, meta_width}
use Rattle.dm_decode.specs.Types.{integer_code}
use Rattle.dm_encode.specs.Numbers.{le_bytes, lenenc_bytes}
use Rattle.dm_encode.specs.Bitmaps.{bitmap}
use Rattle.dm_encode.specs.Kinds.{column_map}
use Rattle.dm_encode.specs.Events.{event, images, map_body, map_event, metadata_of, present, query_body, query_event, rows_body, rows_event, rows_kind, second_present}
use Rattle.dm_encode.proofs.Bits.{length-bitmap}
use Rattle.dm_encode.proofs.RowsBack.{present_long}
use Rattle.std.proofs.lemmas.List.{length-map}
use Rattle.dm_encode.proofs.Digits.{length-le}
use Rattle.dm_encode.proofs.Bodies.{length-event}

pub length-query : (db statement : List ℕ) → length (query_event db statement) ≡ 33 + length db + length statement
length-query db statement =
    let long = length-event 2 (query_body db statement) in
    let parts : length (query_body db statement) ≡ 14 + length db + length statement = simp (length-append, length-le) (omega arith) in
    omega (arith, long, parts)

pub query_small : (db statement : List ℕ) → length db ≤ 255 → length statement ≤ 2 ^ 31 → length (query_event db statement) < 2 ^ 32
query_small db statement short few = let long = length-query db statement in omega (arith, long)

-- an event whose body was seen to be short
pub event_small : (kind : ℕ) (spelled made body : List ℕ) (short : Bool) → body ≡ made → made ≡ spelled → short ≡ leb (length body) 100 → short ≡ true → length (event kind spelled) < 2 ^ 32
event_small kind spelled made body short same is told known =
    let few = leb-true (length body) 100 (sym told ∙ known) in
    let long = length-event kind spelled in
    let size = ap length (same ∙ is) in
    omega (arith, few, long, size)

-- What a caller can show of a table map: at most some millions of columns.

lenenc_short : (n : ℕ) → length (lenenc_bytes n) ≤ 9
lenenc_short n = by (ltb n 251) (ltb n 65536) (ltb n 16777216) where
  by : (one two three : Bool) → length (cond one (le_bytes 1 n) (cond two (252 ∷ le_bytes 2 n) (cond three (253 ∷ le_bytes 3 n) (254 ∷ le_bytes 8 n)))) ≤ 9
  by true two three = omega (arith, length-le 1 n)
  by false true three = omega (arith, length-le 2 n)
  by false false true = omega (arith, length-le 3 n)
  by false false false = omega (arith, length-le 8 n)

code_short : (size : ℕ) → meta_width (integer_code size) ≤ 2
code_short size = by (eqb size 1) (eqb size 2) (eqb size 3) (eqb size 4) where
  by : (one two three four : Bool) → meta_width (cond one 1 (cond two 2 (cond three 9 (cond four 3 8)))) ≤ 2
  by true two three four = omega arith
  by false true three four = omega arith
  by false false true four = omega arith
  by false false false true = omega arith
  by false false false false = omega arith

width_short : (k : Kind) → meta_width (column_map k).code ≤ 2
width_short (kind.Signed size) = code_short size
width_short (kind.Unsigned size) = code_short size
width_short (kind.Decimal precision scale) = omega arith
width_short (kind.Char most) = omega arith
width_short (kind.Varchar most) = omega arith
width_short (kind.Text prefix) = omega arith
width_short (kind.Binary size) = omega arith
width_short (kind.Varbinary most) = omega arith
width_short (kind.Blob prefix) = omega arith
width_short kind.Date = omega arith
width_short kind.Year = omega arith
width_short (kind.Datetime digits) = omega arith
width_short (kind.Timestamp digits) = omega arith

metadata_short : (columns : List Column) → length (metadata_of columns) ≤ 2 * length columns
metadata_short [] = omega arith
metadata_short (c ∷ cs) =
    let own = length-le (meta_width (column_map c.kind).code) (column_map c.kind).meta in
    let few = width_short c.kind in
    let rest = metadata_short cs in
    simp length-append (omega (arith, own, few, rest))

pub map_small : (id : ℕ) (db table : List ℕ) (layout : Layout) → length db ≤ 255 → length table ≤ 255 → length layout.columns ≤ 2 ^ 24 → length (map_event id db table layout) < 2 ^ 32
map_small id db table layout db_short table_short few =
    let long = length-event 19 (map_body id db table layout) in
    let metadata = metadata_short layout.columns in
    let first = lenenc_short (length layout.columns) in
    let second = lenenc_short (length (metadata_of layout.columns)) in
    let bits : length (bitmap (map (λ c. c.nullable) layout.columns)) ≡ bitmap_length (length layout.columns) = length-bitmap (map (λ c. c.nullable) layout.columns) ∙ ap bitmap_length (length-map layout.columns (λ c. c.nullable)) in
    let parts : length (map_body id db table layout) ≤ 2 ^ 31 = simp (length-append, length-le, length-map) (omega (arith, metadata, first, second, bits)) in
    omega (arith, long, parts)

-- And of a rows event, whose images it can bound.

second_short : (change : RowChange) (columns : List Column) → length (second_present change columns) ≤ length (present columns)
second_short (change.Insert row) columns = omega arith
second_short (change.Update old new) columns = omega arith
second_short (change.Delete row) columns = omega arith

pub rows_small : (id : ℕ) (layout : Layout) (change : RowChange) → length layout.columns ≤ 2 ^ 24 → length (images layout.columns change) ≤ 2 ^ 31 → length (rows_event id layout change) < 2 ^ 32
rows_small id layout change few room =
    let long = length-event (rows_kind change) (rows_body id layout change) in
    let count = lenenc_short (length layout.columns) in
    let bits = present_long layout.columns in
    let second = second_short change layout.columns in
    let parts : length (rows_body id layout change) ≤ 2 ^ 31 + 2 ^ 24 = simp (length-append, length-le) (omega (arith, count, bits, second, room)) in
    omega (arith, long, parts)
