-- The values of rows under their keys, by which rows are told apart.
use Rattle.std.specs.Prelude.{ℕ, ◌+◌, Bool, List, [], ◌∷◌, ◌++◌, fold, count_by, Option, Some, None, if◌then◌else◌}
use Rattle.std.specs.List.{list_any, filter_map}
use Rattle.std.specs.Ordering.{is_lt}
use Rattle.dm_value.specs.declared.value.Value.{Value}
use Rattle.dm_schema.specs.declared.column.UniqueKey.{UniqueKey}
use Rattle.dm_schema.specs.declared.row_change.KeyValue.{KeyValue}
use Rattle.dm_schema.specs.declared.row_change.RowChange.{RowChange}
use Rattle.dm_schema.specs.declared.row_change.RowChange.TheVariants as change
use Rattle.dm_schema.specs.contracts.row_change.KeyValuePartialEq.TheImpl as key_value_eq
use Rattle.dm_schema.specs.Layout.{Layout}
use Rattle.dm_schema.specs.Names.{name_cmp}
use Rattle.dm_schema.specs.Kinds.{is_null}
use Rattle.dm_schema.specs.Rows.{values_at, key_of}

-- the place of a unique key in byte order of names, from 1
abbrev pub key_number : List UniqueKey → UniqueKey → ℕ
key_number uniques key = 1 + count_by (λ other. is_lt (name_cmp other.name key.name)) uniques

-- the values of a row under a unique key; none where one of them is NULL
abbrev pub unique_value : Layout → List Value → UniqueKey → Option KeyValue
unique_value layout row key =
    if list_any is_null (values_at layout.columns row key.columns) then None
    else Some (record { key = key_number layout.uniques key; values = values_at layout.columns row key.columns })

-- the values of a row under the primary key, which is number 0, and under its unique keys
abbrev pub row_keys : Layout → List Value → List KeyValue
row_keys layout row = (record { key = 0; values = key_of layout row }) ∷ filter_map (unique_value layout row) layout.uniques

-- those of the old row, then those of the new one
abbrev pub change_keys : Layout → RowChange → List KeyValue
change_keys layout (change.Insert row) = row_keys layout row
change_keys layout (change.Update old new) = row_keys layout old ++ row_keys layout new
change_keys layout (change.Delete row) = row_keys layout row

abbrev pub same_key_value : KeyValue → KeyValue → Bool
same_key_value = (key_value_eq.ghosts).eq

-- one more, unless it is there
abbrev pub with_key : List KeyValue → KeyValue → List KeyValue
with_key keys k = if list_any (λ other. same_key_value other k) keys then keys else keys ++ k ∷ []

-- the keys of a change, each once
abbrev pub keys_of : Layout → RowChange → List KeyValue
keys_of layout change = fold with_key [] (change_keys layout change)
