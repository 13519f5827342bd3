-- The change of a row item fits the schema before the item.
use Rattle.std.proofs.Common.{◌≡◌, ℕ, zero, suc, ◌-◌, true, List, drop, Option, Some, None, option_and_then, Result, Ok, Err, refl, ap, ◌∙◌, subst, arith}
use Rattle.std.specs.Prelude.{slice_get, slice_range, MatchOption}
use Rattle.std.specs.Option.{option_map}
use Rattle.std.specs.Cmp.Lexicographic.{pointwise}
use Rattle.std.proofs.lemmas.Bool.{and_from}
use Rattle.dm_value.specs.declared.value.Value.{Value}
use Rattle.dm_schema.specs.Fits.{fits}
use Rattle.dm_schema.specs.Layout.{Layout}
use Rattle.dm_schema.specs.declared.row_change.RowChange.{RowChange}
use Rattle.dm_schema.specs.declared.row_change.RowChange.TheVariants as change
use Rattle.dm_binlog.specs.declared.bodies.TableMap.{TableMap}
use Rattle.dm_binlog.specs.declared.bodies.ColumnMap.{ColumnMap}
use Rattle.dm_decode.specs.declared.fault.RowFault.{RowFault}
use Rattle.dm_decode.specs.Rows.{row_of}
use Rattle.dm_decode.proofs.Laws.{row_is}
use Rattle.dm_dump.specs.declared.inserts.InsertOrder.{InsertOrder}
use Rattle.dm_dump.specs.Orders.{row_in_force}
use Rattle.dm_dump.proofs.Laws.{row_in_force_fits}
use Rattle.dm_files.specs.declared.files.NamedFile.{NamedFile}
use Rattle.dm_files.specs.Files.{bytes_of}
use Rattle.dm_walk.specs.declared.item.Place.{Place}
use Rattle.dm_walk.specs.declared.item.PlaceKind.{PlaceKind}
use Rattle.dm_walk.specs.declared.item.PlaceKind.TheVariants as place
use Rattle.dm_walk.specs.declared.item.Item.{Item}
use Rattle.dm_walk.specs.declared.item.Item.TheVariants as item
use Rattle.dm_walk.specs.Changes.{change_in, end_of, logged_change, map_at}
use Rattle.dm_track.specs.declared.history.FileOrders.{FileOrders}
use Rattle.dm_track.specs.Histories.{History, item_of, schema_at}
use Rattle.dm_track.specs.Changes.{change_at, change_fits, change_of, dumped, orders_of}

-- an answer that is a change is one that fits
abbrev Fits : Layout → Option RowChange → Type 0
Fits layout o = (c : RowChange) → o ≡ Some c → change_fits layout c ≡ true

none_fits : (layout : Layout) → Fits layout None
none_fits layout c is = absurd cc

one_fits : (layout : Layout) (read : RowChange) → change_fits layout read ≡ true → Fits layout (Some read)
one_fits layout read fit c is = let same : read ≡ c = cc in subst (λ (x : RowChange). change_fits layout x ≡ true) same fit

-- Rows of binlogs.

abbrev Row : Type 0
Row = Result (List Value × ℕ) RowFault

image_fits : (maps : List ColumnMap) (layout : Layout) (bytes : List ℕ) (read : List Value × ℕ) → row_of maps layout bytes ≡ Ok read → pointwise fits read.0 layout.columns ≡ true
image_fits maps layout bytes read is = (row_is maps layout bytes read.0 read.1 is).0

image_change : (kind : PlaceKind) (maps : List ColumnMap) (layout : Layout) (bytes : List ℕ) → Fits layout (change_in kind maps layout bytes)
image_change kind maps layout bytes = by kind (row_of maps layout bytes) refl where
  second : (read : List Value × ℕ) → pointwise fits read.0 layout.columns ≡ true → (o : Row) → row_of maps layout (drop read.1 bytes) ≡ o → row_of maps layout bytes ≡ Ok read → Fits layout (change_in place.Update maps layout bytes)
  second read fit (Err f) behind is = rw (is, behind) (none_fits layout)
  second read fit (Ok other) behind is =
      rw (is, behind) (one_fits layout (change.Update read.0 other.0) (and_from (pointwise fits read.0 layout.columns) (pointwise fits other.0 layout.columns) fit (image_fits maps layout (drop read.1 bytes) other behind)))

  by : (kind : PlaceKind) (o : Row) → row_of maps layout bytes ≡ o → Fits layout (change_in kind maps layout bytes)
  by place.Write (Ok read) is = rw is (one_fits layout (change.Insert read.0) (image_fits maps layout bytes read is))
  by place.Delete (Ok read) is = rw is (one_fits layout (change.Delete read.0) (image_fits maps layout bytes read is))
  by place.Update (Ok read) is = second read (image_fits maps layout bytes read is) (row_of maps layout (drop read.1 bytes)) refl is
  by place.Dumped (Ok read) is = rw is (none_fits layout)
  by place.Statement (Ok read) is = rw is (none_fits layout)
  by place.Write (Err f) is = rw is (none_fits layout)
  by place.Delete (Err f) is = rw is (none_fits layout)
  by place.Update (Err f) is = rw is (none_fits layout)
  by place.Dumped (Err f) is = rw is (none_fits layout)
  by place.Statement (Err f) is = rw is (none_fits layout)

logged_fits : (file : List ℕ) (at : Place) (layout : Layout) → Fits layout (logged_change file at layout)
logged_fits file at layout = by (map_at file at.map) where
  by : (o : Option TableMap) → Fits layout (option_and_then (λ map. change_in at.kind map.columns layout (slice_range file at.at (end_of file at.event))) o)
  by None = none_fits layout
  by (Some map) = image_change at.kind map.columns layout (slice_range file at.at (end_of file at.event))

-- Rows of dumps.

dumped_fits : (file : List ℕ) (orders : List InsertOrder) (at : ℕ) (layout : Layout) → Fits layout (dumped file orders at layout)
dumped_fits file orders at layout = by (row_in_force file orders layout at) refl where
  by : (o : Option (List Value)) → row_in_force file orders layout at ≡ o → Fits layout (option_map change.Insert o)
  by None is = none_fits layout
  by (Some row) is = one_fits layout (change.Insert row) (row_in_force_fits file orders layout at row is)

-- Items.

place_fits : (files : List NamedFile) (orders : List FileOrders) (at : Place) (layout : Layout) → Fits layout (change_at files orders at layout)
place_fits files orders at layout = by at.kind where
  by : (kind : PlaceKind) → Fits layout (change_at files orders (record { file = at.file; at = at.at; event = at.event; map = at.map; kind = kind }) layout)
  by place.Dumped = dumped_fits (bytes_of files at.file) (orders_of orders at.file) at.at layout
  by place.Write = logged_fits (bytes_of files at.file) (record { file = at.file; at = at.at; event = at.event; map = at.map; kind = place.Write }) layout
  by place.Update = logged_fits (bytes_of files at.file) (record { file = at.file; at = at.at; event = at.event; map = at.map; kind = place.Update }) layout
  by place.Delete = logged_fits (bytes_of files at.file) (record { file = at.file; at = at.at; event = at.event; map = at.map; kind = place.Delete }) layout
  by place.Statement = logged_fits (bytes_of files at.file) (record { file = at.file; at = at.at; event = at.event; map = at.map; kind = place.Statement }) layout

-- The law: whatever the files and the history are, the change of an item has in each row a value for each column of the
-- schema before the item, which fits it.
pub change_of_fits : (files : List NamedFile) (h : History) (number : ℕ) (change : RowChange) → change_of files h number ≡ Some change → change_fits (schema_at h (number - 1)) change ≡ true
change_of_fits files h zero change is = absurd cc
change_of_fits files h (suc position) change is = by (item_of h (suc position)) refl is where
  before : position ≡ suc position - 1
  before = omega arith

  by : (o : Option Item) → item_of h (suc position) ≡ o → change_of files h (suc position) ≡ Some change → change_fits (schema_at h (suc position - 1)) change ≡ true
  by None here is = absurd (let none : None ≡ Some change = rw here at is in cc)
  by (Some (item.Ddl at)) here is = absurd (let none : None ≡ Some change = rw here at is in cc)
  by (Some (item.Row at)) here is =
      let read : change_at files h.orders at (schema_at h position) ≡ Some change = rw here at is in
      subst (λ (p : ℕ). change_fits (schema_at h p) change ≡ true) before (place_fits files h.orders at (schema_at h position) change read)

-- what is read of an item of a shard fits, whichever way the shard's history was found
pub read_fits : (files : List NamedFile) (histories own : List History) (shard place number : ℕ) (h : History) (change : RowChange) → own ≡ histories → place ≡ shard → Some h ≡ slice_get own place → change_of files h number ≡ Some change
    → MatchOption (slice_get histories shard) ⊥ (λ found. change_fits (schema_at found (number - 1)) change ≡ true)
read_fits files histories own shard place number h change own_is place_is there read =
    let found : Some h ≡ slice_get histories shard = there ∙ ap (λ (l : List History). slice_get l place) own_is ∙ ap (slice_get histories) place_is in
    subst (λ (o : Option History). MatchOption o ⊥ (λ x. change_fits (schema_at x (number - 1)) change ≡ true)) found (change_of_fits files h number change read)
