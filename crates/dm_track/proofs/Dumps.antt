-- The rows that a history begins with can be read again, by the orders that its history keeps.
use Rattle.std.proofs.Common.{◌≡◌, ℕ, ◌+◌, ◌<◌, true, false, nat_eq, List, [], ◌∷◌, map, Option, Some, None, is_some, Result, Ok, Err, refl, subst, arith}
use Rattle.std.specs.List.{list_all, flat_map}
use Rattle.std.specs.Option.{option_map}
use Rattle.std.proofs.lemmas.Bool.{and_parts}
use Rattle.std.proofs.lemmas.Bool.Decides.{nat_tests}
use Rattle.std.proofs.lemmas.List.Folds.{list_all-append}
use Rattle.dm_value.specs.declared.value.Value.{Value}
use Rattle.dm_schema.specs.Layout.{Layout}
use Rattle.dm_schema.specs.Names.{Text}
use Rattle.dm_schema.specs.declared.row_change.RowChange.TheVariants as change
use Rattle.dm_dump.specs.declared.fault.Fault.{Fault}
use Rattle.dm_dump.specs.declared.inserts.InsertOrder.{InsertOrder}
use Rattle.dm_dump.specs.declared.inserts.Inserts.{Inserts}
use Rattle.dm_dump.specs.Orders.{row_in_force}
use Rattle.dm_dump.specs.Rows.{are_readable}
use Rattle.dm_task.specs.declared.task.SourceTable.{SourceTable}
use Rattle.dm_task.specs.declared.task.Shard.{Shard}
use Rattle.dm_files.specs.declared.files.NamedFile.{NamedFile}
use Rattle.dm_files.specs.Files.{bytes_of}
use Rattle.dm_snapshot.specs.declared.snapshot.RowsFile.{RowsFile}
use Rattle.dm_snapshot.specs.declared.snapshot.Snapshot.{Snapshot}
use Rattle.dm_snapshot.specs.declared.snapshot.SnapshotFault.{SnapshotFault}
use Rattle.dm_snapshot.specs.Snapshots.{DumpReadings, inserts_in, is_readable as are_read, rows_from, schema_in, snapshot_by, snapshot_of, with_rows, with_schema}
use Rattle.dm_walk.specs.Walks.{dumped_item, dumped_items}
use Rattle.dm_track.specs.declared.history.FileOrders.{FileOrders}
use Rattle.dm_track.specs.Builds.{file_orders}
use Rattle.dm_track.specs.Changes.{orders_of}
use Rattle.dm_track.specs.Steps.{beginning_of, is_readable, reads_by}

-- The numbers of a snapshot's files.

abbrev AreNumbered : ℕ → List RowsFile → Type 0
AreNumbered number [] = Unit {0}
AreNumbered number (f ∷ fs) = (f.number ≡ number) × AreNumbered (number + 1) fs

rows_numbered : (r : DumpReadings) (files : List NamedFile) (table : Text) (layout : Layout) (number : ℕ) (names : List Text) (rows : List RowsFile) → rows_from r files table layout number names ≡ Ok rows → AreNumbered number rows
rows_numbered r files table layout number [] rows is = let none : [] ≡ rows = cc in subst (AreNumbered number) none tt
rows_numbered r files table layout number (name ∷ names) rows is =
    by (inserts_in r (bytes_of files number) table layout) (rows_from r files table layout (number + 1) names) (rows_numbered r files table layout (number + 1) names) is where
      by : (o : Result Inserts Fault) (behind : Result (List RowsFile) SnapshotFault) → ((rest : List RowsFile) → behind ≡ Ok rest → AreNumbered (number + 1) rest) → with_rows name number o behind ≡ Ok rows → AreNumbered number rows
      by (Err f) behind next is = absurd cc
      by (Ok inserts) (Err e) next is = absurd cc
      by (Ok inserts) (Ok rest) next is =
          let same : record { number = number; inserts = inserts } ∷ rest ≡ rows = cc in
          subst (AreNumbered number) same (refl, next rest refl)

snapshot_numbered : (r : DumpReadings) (files : List NamedFile) (table : SourceTable) (number : ℕ) (snapshot : Snapshot) → snapshot_of r files table number ≡ Ok snapshot → AreNumbered (number + 1) snapshot.files
snapshot_numbered r files table number snapshot is = by (schema_in r (bytes_of files number)) is where
  rows : (layout : Layout) (o : Result (List RowsFile) SnapshotFault) → ((found : List RowsFile) → o ≡ Ok found → AreNumbered (number + 1) found) → with_schema layout o ≡ Ok snapshot → AreNumbered (number + 1) snapshot.files
  rows layout (Err e) all is = absurd cc
  rows layout (Ok found) all is =
      let same : record { schema = layout; files = found } ≡ snapshot = cc in
      subst (λ (s : Snapshot). AreNumbered (number + 1) s.files) same (all found refl)

  by : (o : Result Layout Fault) → snapshot_by r files table number o ≡ Ok snapshot → AreNumbered (number + 1) snapshot.files
  by (Err f) is = absurd cc
  by (Ok layout) is = rows layout (rows_from r files table.table layout (number + 1) table.rows) (rows_numbered r files table.table layout (number + 1) table.rows) is

-- The orders of each file are found by its number.

abbrev AreFound : List FileOrders → List RowsFile → Type 0
AreFound orders [] = Unit {0}
AreFound orders (f ∷ fs) = (orders_of orders f.number ≡ f.inserts.orders) × AreFound orders fs

one_before : (o : FileOrders) (orders : List FileOrders) (number : ℕ) (fs : List RowsFile) → o.number < number → AreNumbered number fs → AreFound orders fs → AreFound (o ∷ orders) fs
one_before o orders number [] below numbers found = tt
one_before o orders number (f ∷ fs) below numbers found =
    let e = numbers.0 in
    let other : nat_eq o.number f.number ≡ false = grind (arith, nat_tests, e) in
    (rw other found.0, one_before o orders (number + 1) fs (omega arith) numbers.1 found.1)

all_found : (number : ℕ) (fs : List RowsFile) → AreNumbered number fs → AreFound (map file_orders fs) fs
all_found number [] numbers = tt
all_found number (f ∷ fs) numbers =
    let e = numbers.0 in
    let same : nat_eq f.number f.number ≡ true = grind (arith, nat_tests) in
    (rw same refl, one_before (file_orders f) (map file_orders fs) (number + 1) fs (omega (arith, e)) numbers.1 (all_found (number + 1) fs numbers.1))

-- Rows.

row_read : (files : List NamedFile) (orders : List FileOrders) (layout : Layout) (number at : ℕ) (own : List InsertOrder) → orders_of orders number ≡ own → is_some (row_in_force (bytes_of files number) own layout at) ≡ true → reads_by files orders layout (dumped_item number at) ≡ true
row_read files orders layout number at own found read = rw found (by (row_in_force (bytes_of files number) own layout at) read) where
  by : (o : Option (List Value)) → is_some o ≡ true → is_some (option_map change.Insert o) ≡ true
  by None h = h
  by (Some row) h = refl

rows_read : (files : List NamedFile) (orders : List FileOrders) (layout : Layout) (number : ℕ) (own : List InsertOrder) (places : List ℕ) → orders_of orders number ≡ own
    → list_all (λ at. is_some (row_in_force (bytes_of files number) own layout at)) places ≡ true → list_all (reads_by files orders layout) (map (dumped_item number) places) ≡ true
rows_read files orders layout number own [] found read = refl
rows_read files orders layout number own (at ∷ places) found read =
    let parts = and_parts (is_some (row_in_force (bytes_of files number) own layout at)) (list_all (λ at. is_some (row_in_force (bytes_of files number) own layout at)) places) read in
    let first = row_read files orders layout number at own found parts.0 in
    rw first (rows_read files orders layout number own places found parts.1)

files_read : (files : List NamedFile) (orders : List FileOrders) (layout : Layout) (fs : List RowsFile) → AreFound orders fs → list_all (λ f. are_readable (bytes_of files f.number) layout f.inserts) fs ≡ true
    → list_all (reads_by files orders layout) (flat_map dumped_items fs) ≡ true
files_read files orders layout [] found read = refl
files_read files orders layout (f ∷ fs) found read =
    let parts = and_parts (are_readable (bytes_of files f.number) layout f.inserts) (list_all (λ f. are_readable (bytes_of files f.number) layout f.inserts) fs) read in
    let first = rows_read files orders layout f.number f.inserts.orders f.inserts.places found.0 parts.0 in
    let rest = files_read files orders layout fs found.1 parts.1 in
    rw (list_all-append (reads_by files orders layout) (dumped_items f) (flat_map dumped_items fs), first, rest) refl

pub begins_readable : (r : DumpReadings) (files : List NamedFile) (table : SourceTable) (number : ℕ) (shard : Shard) (snapshot : Snapshot) → snapshot_of r files table number ≡ Ok snapshot → are_read files snapshot ≡ true → is_readable files (beginning_of shard snapshot) ≡ true
begins_readable r files table number shard snapshot is read =
    files_read files (map file_orders snapshot.files) snapshot.schema snapshot.files
    (all_found (number + 1) snapshot.files (snapshot_numbered r files table number snapshot is)) read
