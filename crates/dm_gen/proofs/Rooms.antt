-- How many bytes the events of a source take.
use Rattle.std.proofs.Common.{◌≡◌, ℕ, ◌+◌, ◌%◌, ◌<◌, ◌≤◌, ◌^◌, Bool, true, false, cond, ltb, eqb, List, [], ◌∷◌, ◌++◌, length, ap, ◌∙◌, arith, length-append}
use Rattle.std.specs.Prelude.{codes, pos}
use Rattle.std.specs.List.{concat}
use Rattle.dm_value.specs.declared.value.Value.TheVariants as value
use Rattle.dm_schema.specs.declared.column.DefaultRule.TheVariants as default
use Rattle.dm_schema.specs.declared.row_change.RowChange.{RowChange}
use Rattle.dm_schema.specs.declared.row_change.RowChange.TheVariants as change
use Rattle.dm_encode.specs.Numbers.{le_bytes}
use Rattle.dm_encode.specs.Events.{columns_body, counted, flags, images, map_body, map_event, query_event, rows_body, rows_event, rows_front, rows_kind}
use Rattle.dm_encode.specs.Rows.{row_image}
use Rattle.dm_encode.proofs.Bits.{length-bitmap}
use Rattle.dm_encode.proofs.Bodies.{length-event}
use Rattle.dm_encode.proofs.Digits.{length-le}
use Rattle.dm_encode.proofs.Sizes.{length-query, query_small}
use Rattle.dm_gen.specs.declared.live_row.LiveRow.{LiveRow}
use Rattle.dm_gen.specs.Naming.{database, table_of}
use Rattle.dm_gen.specs.Schemas.{columns_after, d_column, id_column, integer_column, schema_after, statement, u_column}
use Rattle.dm_gen.specs.Steps.{Walk, advanced, chosen, deleted, done_before, inserted, new_row, row_of, step, updated, with_v}

-- Table maps.

columns_room : (done : ℕ) → length (columns_body (columns_after done)) ≤ 100
columns_room done = by (ltb done 1) (ltb done 2) where
  by : (early narrow : Bool) → length (columns_body (id_column ∷ u_column ∷ integer_column (codes "v") (cond narrow 4 8) false default.Nothing ∷ cond early [] (d_column ∷ []))) ≤ 100
  by true true = simp (length-append, length-le, length-bitmap) (omega arith)
  by true false = simp (length-append, length-le, length-bitmap) (omega arith)
  by false true = simp (length-append, length-le, length-bitmap) (omega arith)
  by false false = simp (length-append, length-le, length-bitmap) (omega arith)

around_columns : (id : ℕ) (db table columns : List ℕ) → length (concat (le_bytes 6 id ∷ flags ∷ counted db ∷ counted table ∷ columns ∷ [])) ≤ 20 + length db + length table + length columns
around_columns id db table columns = simp (length-append, length-le) (omega arith)

pub map_room : (source done : ℕ) → length (map_event (source + 1) database (table_of source) (schema_after done)) ≤ 200
map_room source done =
    let long = length-event 19 (map_body (source + 1) database (table_of source) (schema_after done)) in
    let columns = columns_room done in
    let parts = around_columns (source + 1) database (table_of source) (columns_body (columns_after done)) in
    omega (arith, long, columns, parts)

-- Rows.

-- the image of a row
image_short : (done : ℕ) (r : LiveRow) → length (row_image (columns_after done) (row_of done r)) ≤ 100
image_short done r = by (ltb done 1) (ltb done 2) where
  by : (early narrow : Bool)
      → length (row_image (id_column ∷ u_column ∷ integer_column (codes "v") (cond narrow 4 8) false default.Nothing ∷ cond early [] (d_column ∷ [])) (value.Int (pos r.id) ∷ value.Int (pos r.u) ∷ value.Int (pos r.v) ∷ cond early [] (value.Int (pos r.d) ∷ [])))
      ≤ 100
  by true true = simp (length-append, length-le, length-bitmap) (omega arith)
  by true false = simp (length-append, length-le, length-bitmap) (omega arith)
  by false true = simp (length-append, length-le, length-bitmap) (omega arith)
  by false false = simp (length-append, length-le, length-bitmap) (omega arith)

-- a change of rows that live
one_short : (done : ℕ) (r : LiveRow) → length (row_image (columns_after done) (row_of done r) ++ []) ≤ 100
one_short done r =
    let short = image_short done r in
    let all = length-append (row_image (columns_after done) (row_of done r)) [] in
    omega (arith, short, all)

two_short : (done : ℕ) (old new : LiveRow) → length (row_image (columns_after done) (row_of done old) ++ (row_image (columns_after done) (row_of done new) ++ [])) ≤ 200
two_short done old new =
    let first = image_short done old in
    let second = one_short done new in
    let all = length-append (row_image (columns_after done) (row_of done old)) (row_image (columns_after done) (row_of done new) ++ []) in
    omega (arith, first, second, all)

-- the images of a step's change
images_short : (j : ℕ) (w : Walk) → length (images (columns_after (done_before j)) (step j w).change) ≤ 200
images_short j w = by (ltb (j % 4) 2) (eqb (j % 4) 2) where
  by : (insert update : Bool)
      → length (images (columns_after (done_before j)) (cond insert (inserted (done_before j) (advanced w)) (cond update (updated (done_before j) (advanced w)) (deleted (done_before j) (advanced w)))).change) ≤ 200
  by true update = let short = one_short (done_before j) (new_row (done_before j) (advanced w)) in omega (arith, short)
  by false true = two_short (done_before j) (chosen (advanced w)) (with_v ((advanced w).x % 1000) (chosen (advanced w)))
  by false false = let short = one_short (done_before j) (chosen (advanced w)) in omega (arith, short)

front_room : (id done : ℕ) (change : RowChange) → length (rows_front id (columns_after done) change) ≤ 50
front_room id done rows = by (ltb done 1) rows where
  by : (early : Bool) (rows : RowChange) → length (rows_front id (id_column ∷ u_column ∷ integer_column (codes "v") (cond (ltb done 2) 4 8) false default.Nothing ∷ cond early [] (d_column ∷ [])) rows) ≤ 50
  by true (change.Insert row) = simp (length-append, length-le, length-bitmap) (omega arith)
  by true (change.Update old new) = simp (length-append, length-le, length-bitmap) (omega arith)
  by true (change.Delete row) = simp (length-append, length-le, length-bitmap) (omega arith)
  by false (change.Insert row) = simp (length-append, length-le, length-bitmap) (omega arith)
  by false (change.Update old new) = simp (length-append, length-le, length-bitmap) (omega arith)
  by false (change.Delete row) = simp (length-append, length-le, length-bitmap) (omega arith)

rows_room : (id done : ℕ) (change : RowChange) → length (images (columns_after done) change) ≤ 200 → length (rows_event id (schema_after done) change) ≤ 300
rows_room id done change few =
    let long = length-event (rows_kind change) (rows_body id (schema_after done) change) in
    let front = front_room id done change in
    let parts = length-append (rows_front id (columns_after done) change) (images (columns_after done) change) in
    omega (arith, long, front, parts, few)

pub step_room : (source j : ℕ) (w : Walk) → length (rows_event (source + 1) (schema_after (done_before j)) (step j w).change) ≤ 300
step_room source j w = rows_room (source + 1) (done_before j) (step j w).change (images_short j w)

-- Statements.

statement_length : (done : ℕ) (table : List ℕ) → length (statement done table) ≤ 100 + length table
statement_length done table = by (eqb done 0) (eqb done 1) where
  by : (first second : Bool)
      → length (cond first (codes "ALTER TABLE `" ++ table ++ codes "` ADD COLUMN `d` INT NOT NULL DEFAULT 5") (cond second (codes "ALTER TABLE `" ++ table ++ codes "` MODIFY COLUMN `v` BIGINT NOT NULL") (codes "CREATE UNIQUE INDEX `w` ON `" ++ table ++ codes "` (`u`,`v`)"))) ≤ 100 + length table
  by true second = simp length-append (omega arith)
  by false true = simp length-append (omega arith)
  by false false = simp length-append (omega arith)

pub statement_room : (source done : ℕ) → length (query_event database (statement done (table_of source))) ≤ 200
statement_room source done =
    let long = length-query database (statement done (table_of source)) in
    let few = statement_length done (table_of source) in
    omega (arith, long, few)

-- the event of a statement, of which the code has the table's name and the text as slices
pub statement_small : (done : ℕ) (db table named text slice : List ℕ) → length db ≤ 255 → length table ≤ 255 → named ≡ table → text ≡ statement done named → slice ≡ text → length (query_event db slice) < 2 ^ 32
statement_small done db table named text slice known short is written lent =
    let few = statement_length done named in
    query_small db slice known (omega (arith, few, short, ap length is, ap length (lent ∙ written)))
