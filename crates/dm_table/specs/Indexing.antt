-- Where the rows of a table stand, by the values that they have under its unique keys.
use Rattle.std.specs.Prelude.{◌≡◌, true, List, [], ◌∷◌, ◌++◌, Option, Some, None, option_and_then, if◌then◌else◌}
use Rattle.std.specs.List.{list_any, filter_map}
use Rattle.std.specs.FinMap as fin
use Rattle.dm_value.specs.declared.value.Value.TheVariants as value
use Rattle.dm_schema.specs.declared.column.Column.{Column}
use Rattle.dm_schema.specs.declared.column.UniqueKey.{UniqueKey}
use Rattle.dm_schema.specs.Layout.{Layout}
use Rattle.dm_table.specs.Contents.{Row, RowMap, AreRows, same_row, agree_in}
use Rattle.dm_table.specs.Seeing.{under, has_values}

-- what an index has of a row and a unique key: the row's values under it, and behind them its name
abbrev pub entry_of : UniqueKey → List Column → Row → Row
entry_of key columns row = under key columns row ++ value.Bytes key.name ∷ []

-- where none of the values is NULL
abbrev pub some_entry : UniqueKey → List Column → Row → Option Row
some_entry key columns row = if has_values key columns row then Some (entry_of key columns row) else None

-- all that an index has of a row
abbrev pub entries_of : Layout → Row → List Row
entries_of layout row = filter_map (λ key. some_entry key layout.columns row) layout.uniques

-- an index tells of each row's entries where the row stands
abbrev pub Tells : Layout → RowMap → RowMap → Type 0
Tells layout rows index = (place row entry : Row) → fin.get rows place ≡ Some row → list_any (same_row entry) (entries_of layout row) ≡ true → fin.get index entry ≡ Some place

-- what holds of the rows of every table, and of their index
pub record AreIndexed (layout : Layout) (rows index : RowMap) : Type 0 where
  pub are : AreRows layout rows
  pub told : Tells layout rows index

-- An index made and changed.

-- a place noted under each of the entries
abbrev pub all_noted : Row → List Row → RowMap → RowMap
all_noted place [] index = index
all_noted place (entry ∷ entries) index = all_noted place entries (fin.insert index entry place)

-- the rows of a list noted in turn
abbrev pub indexed : Layout → List (Row × Row) → RowMap → RowMap
indexed layout [] index = index
indexed layout (e ∷ es) index = indexed layout es (all_noted e.0 (entries_of layout e.1) index)

-- An index asked.

-- a place whose row agrees with another in a unique key
abbrev pub confirmed : UniqueKey → List Column → RowMap → Row → Row → Option Row
confirmed key columns rows row place = option_and_then (λ other. if agree_in key columns row other then Some place else None) (fin.get rows place)

-- where the index has a row that agrees with this one in a unique key
abbrev pub told_place : UniqueKey → List Column → RowMap → RowMap → Row → Option Row
told_place key columns rows index row = option_and_then (confirmed key columns rows row) (option_and_then (fin.get index) (some_entry key columns row))

-- the same for each of the unique keys
abbrev pub told_places : Layout → RowMap → RowMap → Row → List Row
told_places layout rows index row = filter_map (λ key. told_place key layout.columns rows index row) layout.uniques
