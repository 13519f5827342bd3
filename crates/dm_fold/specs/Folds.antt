-- The rows of a shard at a position of its history, item by item.
use Rattle.std.specs.Prelude.{ℕ, zero, suc, Bool, true, false, List, [], ◌∷◌, Option, Some, None, option_and_then, slice_get, Result, Ok, Err, if◌then◌else◌}
use Rattle.std.specs.Option.{option_map_or}
use Rattle.std.specs.FinMap as fin
use Rattle.dm_schema.specs.Layout.{Layout}
use Rattle.dm_schema.specs.Names.{column_names}
use Rattle.dm_schema.specs.Rows.{key_of}
use Rattle.dm_schema.specs.declared.row_change.RowChange.{RowChange}
use Rattle.dm_schema.specs.declared.row_change.RowChange.TheVariants as change
use Rattle.dm_table.specs.declared.op.RowOp.{RowOp}
use Rattle.dm_table.specs.declared.op.RowOp.TheVariants as op
use Rattle.dm_table.specs.declared.fault.TableFault.{TableFault}
use Rattle.dm_table.specs.Contents.{Row, TableContent, new_table, same_row}
use Rattle.dm_table.specs.Operations.{table_applied}
use Rattle.dm_table.specs.Alterations.{altered}
use Rattle.dm_files.specs.declared.files.NamedFile.{NamedFile}
use Rattle.dm_walk.specs.declared.item.Item.{Item}
use Rattle.dm_walk.specs.declared.item.Item.TheVariants as item
use Rattle.dm_track.specs.Builds.{Inputs}
use Rattle.dm_track.specs.Changes.{change_of}
use Rattle.dm_track.specs.Histories.{History, item_of, schema_at}
use Rattle.dm_fold.specs.declared.fault.FoldFault.{FoldFault}
use Rattle.dm_fold.specs.declared.fault.FoldFault.TheVariants as fault

-- Changes.

-- the row goes in, whose primary key and unique values may not be there
abbrev pub insertion : Layout → Row → RowOp
insertion layout row = op.Insert (column_names layout.columns) row

-- the row under its key goes
abbrev pub deletion : Layout → Row → RowOp
deletion layout row = op.Delete (key_of layout row)

-- an update takes the old row out and puts the new one in
abbrev pub ops_of : Layout → RowChange → List RowOp
ops_of layout (change.Insert new) = insertion layout new ∷ []
ops_of layout (change.Update old new) = deletion layout old ∷ insertion layout new ∷ []
ops_of layout (change.Delete old) = deletion layout old ∷ []

-- the row stands under its key as it is given
abbrev pub is_there : TableContent → Row → Bool
is_there table row = option_map_or (same_row row) (fin.get table.rows (key_of table.layout row)) false

-- the old row of a change is there
abbrev pub has_old : TableContent → RowChange → Bool
has_old table (change.Insert new) = true
has_old table (change.Update old new) = is_there table old
has_old table (change.Delete old) = is_there table old

abbrev pub unless_refused : Result TableContent TableFault → Option TableContent
unless_refused (Ok table) = Some table
unless_refused (Err f) = None

-- the table behind a change; none where that isn't defined
abbrev pub changed : TableContent → RowChange → Option TableContent
changed table c = if has_old table c then unless_refused (table_applied table (ops_of table.layout c)) else None

-- Items.

-- the table behind an item: a statement keeps the values of columns that stay, fills new ones and drops the others
abbrev pub with_item : List NamedFile → History → ℕ → TableContent → Option TableContent
with_item files h number table = by (item_of h number) where
  by : Option Item → Option TableContent
  by None = None
  by (Some (item.Row place)) = option_and_then (changed table) (change_of files h number)
  by (Some (item.Ddl place)) = unless_refused (altered table (schema_at h number))

-- the table behind items in turn, or the first item behind which there is none
abbrev pub and_item : ℕ → Result TableContent FoldFault → (TableContent → Option TableContent) → Result TableContent FoldFault
and_item number (Err f) next = Err f
and_item number (Ok table) next = by (next table) where
  by : Option TableContent → Result TableContent FoldFault
  by None = Err (fault.Conflict number)
  by (Some behind) = Ok behind

-- the rows at a position: none at first, then what each item leaves
unfoldable pub folded : List NamedFile → History → ℕ → Result TableContent FoldFault
folded files h zero = Ok (new_table (schema_at h 0))
folded files h (suc position) = and_item (suc position) (folded files h position) (with_item files h (suc position))

-- the rows of a shard's history at a position
abbrev pub fold_of : Inputs → History → ℕ → Result TableContent FoldFault
fold_of inputs h position = folded inputs.files h position

-- What a call answers.

abbrev pub is_memory : FoldFault → Bool
is_memory (fault.Conflict number) = false
is_memory fault.Memory = true
