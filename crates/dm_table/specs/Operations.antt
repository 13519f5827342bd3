-- What operations leave of a table's rows, or why there is none.
use Rattle.std.specs.Prelude.{Bool, true, false, not, ◌&&◌, ◌||◌, List, [], ◌∷◌, ◌++◌, map, Option, Some, None, is_some, is_none, unwrap_or, option_and_then, Result, Ok, Err}
use Rattle.std.specs.Option.{option_map, option_or, option_map_or}
use Rattle.std.specs.List.{filter, find, list_any, zip}
use Rattle.std.specs.FinMap as fin
use Rattle.dm_list.specs.Answer.{first_refusal, unless_refused}
use Rattle.dm_value.specs.declared.value.Value.{Value}
use Rattle.dm_value.specs.declared.value.Value.TheVariants as value
use Rattle.dm_schema.specs.declared.column.Column.{Column}
use Rattle.dm_schema.specs.declared.column.UniqueKey.{UniqueKey}
use Rattle.dm_schema.specs.Layout.{Layout}
use Rattle.dm_schema.specs.Names.{Text, same_name, has_column}
use Rattle.dm_schema.specs.NameOrder.{in_order_of, columns_in_order, uniques_in_order}
use Rattle.dm_schema.specs.Fill.{fill_for_missing}
use Rattle.dm_schema.specs.Fits.{fits}
use Rattle.dm_schema.specs.Keys.{key_number}
use Rattle.dm_schema.specs.Rows.{cell, key_of}
use Rattle.dm_table.specs.declared.op.RowOp.{RowOp}
use Rattle.dm_table.specs.declared.op.RowOp.TheVariants as op
use Rattle.dm_table.specs.declared.fault.TableFault.{TableFault}
use Rattle.dm_table.specs.declared.fault.TableFault.TheVariants as fault
use Rattle.dm_table.specs.Contents.{Row, RowMap, TableContent, same_row, agree_in, share_unique}

-- What an operation says.

-- the columns that it names, and their values in that order
abbrev pub columns_of : RowOp → List Text
columns_of (op.Insert columns row) = columns
columns_of (op.Replace columns row) = columns
columns_of (op.Update columns key row) = columns
columns_of (op.Delete key) = []
columns_of (op.Erase key) = []

abbrev pub values_of : RowOp → Row
values_of (op.Insert columns row) = row
values_of (op.Replace columns row) = row
values_of (op.Update columns key row) = row
values_of (op.Delete key) = []
values_of (op.Erase key) = []

-- the key of the row that it is about, where that row is or may be there
abbrev pub asked_key : RowOp → Option Row
asked_key (op.Insert columns row) = None
asked_key (op.Replace columns row) = None
asked_key (op.Update columns key row) = Some key
asked_key (op.Delete key) = Some key
asked_key (op.Erase key) = Some key

-- its row has to be there
abbrev pub needs_row : RowOp → Bool
needs_row (op.Insert columns row) = false
needs_row (op.Replace columns row) = false
needs_row (op.Update columns key row) = true
needs_row (op.Delete key) = true
needs_row (op.Erase key) = false

-- another row may not share a key with the one that it leaves
abbrev pub needs_room : RowOp → Bool
needs_room (op.Insert columns row) = true
needs_room (op.Replace columns row) = false
needs_room (op.Update columns key row) = true
needs_room (op.Delete key) = false
needs_room (op.Erase key) = false

-- the value that names with values in their order give a column
abbrev pub named_value : List Text → Row → Text → Option Value
named_value names row name = option_map (λ p. p.1) (find (λ p. same_name p.0 name) (zip names row))

abbrev pub given : RowOp → Column → Option Value
given o c = named_value (columns_of o) (values_of o) c.name

-- The row that an operation leaves.

-- the row of the key that it asks for
abbrev pub old_row : RowOp → RowMap → Option Row
old_row o rows = option_and_then (fin.get rows) (asked_key o)

-- what a column has that isn't named: of a new row its constant fill, of an old one what it had
abbrev pub kept_value : List Column → RowOp → RowMap → Column → Option Value
kept_value columns o rows c = by (asked_key o) where
  by : Option Row → Option Value
  by None = fill_for_missing c
  by (Some key) = option_and_then (λ row. cell columns row c.name) (fin.get rows key)

abbrev pub left_value : List Column → RowOp → RowMap → Column → Value
left_value columns o rows c = unwrap_or (option_or (given o c) (kept_value columns o rows c)) value.Null

abbrev pub left_row : Layout → RowOp → RowMap → Row
left_row layout o rows = map (left_value layout.columns o rows) layout.columns

-- Refusals.

-- a value that is given doesn't fit the column
abbrev pub is_unfit_value : Option Value → Column → Bool
is_unfit_value given c = option_map_or (λ v. not (fits v c)) given false

-- a new row doesn't name a column that has no constant fill
abbrev pub lacks_value : RowOp → Column → Bool
lacks_value o c = is_none (asked_key o) && is_none (given o c) && is_none (fill_for_missing c)

-- the value that the key has in a column of the primary key
abbrev pub key_value : Layout → RowOp → Column → Option Value
key_value layout o c = option_and_then (λ key. named_value layout.primary key c.name) (asked_key o)

abbrev pub is_unfit : Layout → RowOp → Column → Bool
is_unfit layout o c = is_unfit_value (given o c) c || lacks_value o c || is_unfit_value (key_value layout o c) c

-- the row is another than the one that the operation is about
abbrev pub is_other : RowOp → Row → Bool
is_other o key = option_map_or (λ asked. not (same_row asked key)) (asked_key o) true

-- another row has the primary key of this one
abbrev pub is_primary_taken : Layout → RowOp → RowMap → Row → Bool
is_primary_taken layout o rows row = is_some (fin.get rows (key_of layout row)) && is_other o (key_of layout row)

-- another row agrees with this one in a unique key
abbrev pub is_unique_taken : Layout → RowOp → RowMap → Row → UniqueKey → Bool
is_unique_taken layout o rows row key = list_any (λ e. is_other o e.0 && agree_in key layout.columns row e.1) (fin.entries rows)

abbrev pub names_in_order : List Text → List Text
names_in_order names = in_order_of (λ name. name) names

-- The refusals of an operation in their order: columns by name, then the primary key, then unique keys by name.
abbrev pub refusals : Layout → RowOp → RowMap → List (Bool × TableFault)
refusals layout o rows =
    map (λ name. (not (has_column layout.columns name), fault.UnknownColumn name)) (names_in_order (columns_of o))
    ++ map (λ c. (is_unfit layout o c, fault.Unfit c.name)) (columns_in_order layout.columns)
    ++ (needs_row o && is_none (old_row o rows), fault.Missing)
    ∷ (needs_room o && is_primary_taken layout o rows (left_row layout o rows), fault.Duplicate 0)
    ∷ map (λ key. (needs_room o && is_unique_taken layout o rows (left_row layout o rows) key, fault.Duplicate (key_number layout.uniques key))) (uniques_in_order layout.uniques)

-- Effects.

-- the rows without those that share the primary key or a unique key with this one
abbrev pub without_sharing : Layout → Row → RowMap → RowMap
without_sharing layout row rows = fin.from_entries (filter (λ e. not (same_row (key_of layout row) e.0 || share_unique layout row e.1)) (fin.entries rows))

abbrev pub with_row : Layout → Row → RowMap → RowMap
with_row layout row rows = fin.insert rows (key_of layout row) row

-- the rows that an operation leaves, which isn't refused
abbrev pub effect : Layout → RowOp → RowMap → RowMap
effect layout (op.Insert columns row) rows = with_row layout (left_row layout (op.Insert columns row) rows) rows
effect layout (op.Replace columns row) rows =
    with_row layout (left_row layout (op.Replace columns row) rows) (without_sharing layout (left_row layout (op.Replace columns row) rows) rows)
effect layout (op.Update columns key row) rows = with_row layout (left_row layout (op.Update columns key row) rows) (fin.remove rows key)
effect layout (op.Delete key) rows = fin.remove rows key
effect layout (op.Erase key) rows = fin.remove rows key

-- the rows behind an operation, or its first refusal
abbrev pub applied : Layout → RowOp → RowMap → Result RowMap TableFault
applied layout o rows = unless_refused (first_refusal (refusals layout o rows)) (effect layout o rows)

-- the rows behind operations in turn, or the refusal of the first that has one
abbrev pub all_applied : Layout → List RowOp → RowMap → Result RowMap TableFault
all_applied layout [] rows = Ok rows
all_applied layout (o ∷ os) rows = by (applied layout o rows) (all_applied layout os) where
  by : Result RowMap TableFault → (RowMap → Result RowMap TableFault) → Result RowMap TableFault
  by (Err f) behind = Err f
  by (Ok now) behind = behind now

abbrev pub with_rows : Layout → Result RowMap TableFault → Result TableContent TableFault
with_rows layout (Err f) = Err f
with_rows layout (Ok rows) = Ok (record { layout = layout; rows = rows })

-- a table behind operations, or the first refusal
abbrev pub table_applied : TableContent → List RowOp → Result TableContent TableFault
table_applied table ops = with_rows table.layout (all_applied table.layout ops table.rows)
