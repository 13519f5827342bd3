-- The change of a row that an item stands for.
use Rattle.std.specs.Prelude.{ℕ, zero, suc, Bool, true, false, ◌==◌, ◌&&◌, List, [], length, slice_get, Option, Some, None, is_some}
use Rattle.std.specs.Option.{option_map, option_map_or}
use Rattle.std.specs.List.{find, list_all, range_with_len}
use Rattle.std.specs.Cmp.Lexicographic.{pointwise}
use Rattle.dm_schema.specs.Fits.{fits}
use Rattle.dm_schema.specs.Layout.{Layout}
use Rattle.dm_schema.specs.declared.row_change.RowChange.{RowChange}
use Rattle.dm_schema.specs.declared.row_change.RowChange.TheVariants as change
use Rattle.dm_dump.specs.declared.inserts.InsertOrder.{InsertOrder}
use Rattle.dm_dump.specs.Orders as dump
use Rattle.dm_files.specs.declared.files.NamedFile.{NamedFile}
use Rattle.dm_files.specs.Files.{are_short, bytes_of}
use Rattle.dm_walk.specs.declared.item.Place.{Place}
use Rattle.dm_walk.specs.declared.item.PlaceKind.{PlaceKind}
use Rattle.dm_walk.specs.declared.item.PlaceKind.TheVariants as place
use Rattle.dm_walk.specs.declared.item.Item.{Item}
use Rattle.dm_walk.specs.declared.item.Item.TheVariants as item
use Rattle.dm_walk.specs.Changes.{logged_change}
use Rattle.dm_track.specs.declared.history.FileOrders.{FileOrders}
use Rattle.dm_track.specs.Histories.{History, schema_at, item_of}

-- Rows of dumps.

abbrev pub orders_of : List FileOrders → ℕ → List InsertOrder
orders_of all number = option_map_or (λ f. f.orders) (find (λ f. f.number == number) all) []

abbrev pub dumped : List ℕ → List InsertOrder → ℕ → Layout → Option RowChange
dumped file orders at layout = option_map change.Insert (dump.row_in_force file orders layout at)

-- each row of a change has a value for each column, which fits
abbrev pub change_fits : Layout → RowChange → Bool
change_fits layout (change.Insert row) = pointwise fits row layout.columns
change_fits layout (change.Update old after) = pointwise fits old layout.columns && pointwise fits after layout.columns
change_fits layout (change.Delete row) = pointwise fits row layout.columns

-- Items.

-- the change that stands at a place, by the schema there
abbrev pub change_at : List NamedFile → List FileOrders → Place → Layout → Option RowChange
change_at files orders at layout = by at.kind where
  by : PlaceKind → Option RowChange
  by place.Dumped = dumped (bytes_of files at.file) (orders_of orders at.file) at.at layout
  by kind = logged_change (bytes_of files at.file) at layout

-- the change of the item of a number, by the schema before it
abbrev pub change_of : List NamedFile → History → ℕ → Option RowChange
change_of files h zero = None
change_of files h (suc position) = by (item_of h (suc position)) where
  by : Option Item → Option RowChange
  by None = None
  by (Some (item.Ddl at)) = None
  by (Some (item.Row at)) = change_at files h.orders at (schema_at h position)

abbrev pub is_row_item : Option Item → Bool
is_row_item None = false
is_row_item (Some (item.Ddl at)) = false
is_row_item (Some (item.Row at)) = true

-- there is such a shard, and its item of this number is a row
abbrev pub is_row : List History → ℕ → ℕ → Bool
is_row histories shard number = option_map_or (λ h. is_row_item (item_of h number)) (slice_get histories shard) false

-- an item is no row, or a row that can be read
abbrev pub reads : List NamedFile → History → ℕ → Bool
reads files h number = by (item_of h number) where
  by : Option Item → Bool
  by None = true
  by (Some (item.Ddl at)) = true
  by (Some (item.Row at)) = is_some (change_of files h number)

-- each row item of each history can be read
abbrev pub all_read : List NamedFile → List History → Bool
all_read files histories = list_all (λ h. list_all (reads files h) (range_with_len 1 (length h.items))) histories

-- places in files have 32 bits, and each row item of each history can be read
abbrev pub are_kept : List NamedFile → List History → Bool
are_kept files histories = are_short files && all_read files histories
