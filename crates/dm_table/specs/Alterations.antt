-- What an alteration leaves of a table, or why there is none.
use Rattle.std.specs.Prelude.{Bool, false, not, ◌&&◌, ◌||◌, List, ◌∷◌, ◌++◌, map, Option, Some, None, is_none, unwrap_or, Result}
use Rattle.std.specs.Option.{option_or, option_map_or}
use Rattle.std.specs.List.{list_any}
use Rattle.std.specs.Cmp.Lexicographic.{pointwise}
use Rattle.std.specs.FinMap as fin
use Rattle.dm_list.specs.Answer.{first_refusal, unless_refused}
use Rattle.dm_value.specs.declared.value.Value.{Value}
use Rattle.dm_value.specs.declared.value.Value.TheVariants as value
use Rattle.dm_schema.specs.declared.column.Column.{Column}
use Rattle.dm_schema.specs.declared.column.UniqueKey.{UniqueKey}
use Rattle.dm_schema.specs.Layout.{Layout}
use Rattle.dm_schema.specs.Names.{same_name, column_at}
use Rattle.dm_schema.specs.NameOrder.{columns_in_order, uniques_in_order}
use Rattle.dm_schema.specs.Fill.{fill}
use Rattle.dm_schema.specs.Fits.{fits}
use Rattle.dm_schema.specs.Keys.{key_number}
use Rattle.dm_schema.specs.KindOrder.{comparable}
use Rattle.dm_schema.specs.Rows.{cell}
use Rattle.dm_table.specs.declared.fault.TableFault.{TableFault}
use Rattle.dm_table.specs.declared.fault.TableFault.TheVariants as fault
use Rattle.dm_table.specs.Contents.{Row, RowMap, TableContent, same_row, agree_in}

-- the value of a row in a column: what it had, or the fill of a new column
abbrev pub reshaped_value : List Column → Row → Column → Value
reshaped_value before row c = unwrap_or (option_or (cell before row c.name) (fill c)) value.Null

abbrev pub reshaped_row : List Column → List Column → Row → Row
reshaped_row before after row = map (reshaped_value before row) after

-- the rows with other columns, under the same keys
abbrev pub reshaped : List Column → List Column → RowMap → RowMap
reshaped before after rows = fin.from_entries (map (λ e. (e.0, reshaped_row before after e.1)) (fin.entries rows))

-- a value that some row has in the old column doesn't fit the new one
abbrev pub has_unfit : List Column → RowMap → Column → Bool
has_unfit before rows c = list_any (λ row. option_map_or (λ v. not (fits v c)) (cell before row c.name) false) (fin.values rows)

-- A column that stays and whose kinds aren't comparable, or that has a value that doesn't fit; or a new one without a fill.
abbrev pub is_unfit_column : List Column → RowMap → Column → Bool
is_unfit_column before rows c = by (column_at before c.name) where
  by : Option Column → Bool
  by None = is_none (fill c)
  by (Some old) = not (comparable old.kind c.kind) || has_unfit before rows c

-- two rows agree in a unique key
abbrev pub is_shared : UniqueKey → List Column → RowMap → Bool
is_shared key columns rows = list_any (λ a. list_any (λ b. not (same_row a.0 b.0) && agree_in key columns a.1 b.1) (fin.entries rows)) (fin.entries rows)

-- The refusals of an alteration in their order: the primary key, then columns by name, then unique keys by name.
abbrev pub alter_refusals : TableContent → Layout → List (Bool × TableFault)
alter_refusals table after =
    (not (pointwise same_name table.layout.primary after.primary), fault.PrimaryDiffers)
    ∷ map (λ c. (is_unfit_column table.layout.columns table.rows c, fault.Unfit c.name)) (columns_in_order after.columns)
    ++ map (λ key. (is_shared key after.columns (reshaped table.layout.columns after.columns table.rows), fault.Duplicate (key_number after.uniques key))) (uniques_in_order after.uniques)

-- the table with another schema, its columns in the order that is given; or the first refusal
abbrev pub altered : TableContent → Layout → Result TableContent TableFault
altered table after =
    unless_refused (first_refusal (alter_refusals table after)) (record { layout = after; rows = reshaped table.layout.columns after.columns table.rows })
