-- Which records are written: those that a text can say.
use Rattle.std.specs.Prelude.{Bool, true, false, not, ◌&&◌, ◌==◌, List, length}
use Rattle.std.specs.Option.{option_map_or}
use Rattle.std.specs.List.{list_all}
use Rattle.std.specs.Cmp.Lexicographic.{pointwise}
use Rattle.std.specs.Bool.{beq}
use Rattle.dm_schema.specs.declared.change.Change.{Change}
use Rattle.dm_schema.specs.declared.change.Change.TheVariants as change
use Rattle.dm_schema.specs.declared.change.Spot.{Spot}
use Rattle.dm_schema.specs.declared.change.Spot.TheVariants as spot
use Rattle.dm_schema.specs.declared.column.Column.{Column}
use Rattle.dm_schema.specs.Fits.{fits}
use Rattle.dm_schema.specs.Kinds.{is_column, is_key}
use Rattle.dm_schema.specs.Layout.{Layout}
use Rattle.dm_schema.specs.Names.{Text}
use Rattle.dm_schema.specs.Schemas.{all_columns, is_formed, is_unfit_default, names_repeat}
use Rattle.dm_table.specs.Contents.{Row}
use Rattle.dm_table.specs.declared.op.RowOp.{RowOp}
use Rattle.dm_table.specs.declared.op.RowOp.TheVariants as op
use Rattle.dm_target.specs.Asking.{is_meta_table}
use Rattle.dm_stmt.specs.declared.record.Record.{Record}
use Rattle.dm_stmt.specs.declared.record.Record.TheVariants as record_of
use Rattle.dm_stmt.specs.Known.{KnownMap, schema_in}
use Rattle.dm_stmt.specs.Texts.{columns_named}

abbrev pub is_empty : {A : Type 0} → List A → Bool
is_empty xs = length xs == 0

-- Operations.

-- as many values as columns, each of which fits its column
abbrev pub fit_columns : List Column → Row → Bool
fit_columns columns values = pointwise fits values columns

-- one column at least, each of the schema and none twice, with values that fit them
abbrev pub names_row : Layout → List Text → Row → Bool
names_row layout names row =
    not (is_empty names) && not (names_repeat names) && all_columns layout.columns names && fit_columns (columns_named layout.columns names) row

-- the values of a primary key
abbrev pub is_key_row : Layout → Row → Bool
is_key_row layout key = fit_columns (columns_named layout.columns layout.primary) key

abbrev pub is_op : Layout → RowOp → Bool
is_op layout (op.Insert names row) = names_row layout names row
is_op layout (op.Replace names row) = names_row layout names row
is_op layout (op.Update names key row) = names_row layout names row && is_key_row layout key
is_op layout (op.Delete key) = is_key_row layout key
is_op layout (op.Erase key) = is_key_row layout key

-- Changes.

abbrev pub keeps_place : Spot → Bool
keeps_place spot.Keep = true
keeps_place _ = false

abbrev pub goes_last : Spot → Bool
goes_last spot.Last = true
goes_last _ = false

-- a column with a default that fits it
abbrev pub is_whole_column : Column → Bool
is_whole_column column = is_column column && not (is_unfit_default column)

-- a change as an alteration from one schema to another has them
abbrev pub is_written_change : Change → Bool
is_written_change (change.Add column spot) = goes_last spot && is_whole_column column
is_written_change (change.Drop name) = true
is_written_change (change.Modify column spot null_written) = keeps_place spot && beq null_written column.nullable && is_whole_column column
is_written_change (change.AddUnique key named) = named && is_key key
is_written_change (change.DropKey name) = true
is_written_change _ = false

-- the operations are of a known table, and as its schema asks
abbrev pub are_ops : Layout → List RowOp → Bool
are_ops layout ops = is_formed layout && list_all (is_op layout) ops

-- A record that is written: it isn't empty, and is of no table that is kept for other things.
abbrev pub is_record : KnownMap → Record → Bool
is_record known (record_of.Create table layout) = not (is_meta_table table) && is_formed layout
is_record known (record_of.Alter table changes) =
    not (is_meta_table table) && option_map_or (λ layout. true) (schema_in known table) false && not (is_empty changes) && list_all is_written_change changes
is_record known (record_of.Apply table ops) = not (is_meta_table table) && not (is_empty ops) && option_map_or (λ layout. are_ops layout ops) (schema_in known table) false
is_record known (record_of.Metas pairs) = not (is_empty pairs)
