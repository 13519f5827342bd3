-- The order of a row's literals: names of columns.
use Rattle.std.specs.Prelude.{ℕ, Bool, not, ◌==◌, ◌&&◌, nat_le, List, length, reverse, Option, None, option_and_then, if◌then◌else◌}
use Rattle.std.specs.Option.{option_map, option_to_list}
use Rattle.std.specs.List.{flat_map, find}
use Rattle.std.specs.Cmp.Lexicographic.{pointwise}
use Rattle.dm_value.specs.declared.value.Value.{Value}
use Rattle.dm_schema.specs.declared.column.Column.{Column}
use Rattle.dm_schema.specs.Layout.{Layout}
use Rattle.dm_schema.specs.Names.{Text, same_name, column_at, column_names}
use Rattle.dm_schema.specs.Rows.{values_at}
use Rattle.dm_schema.specs.Schemas.{all_columns, names_repeat}
use Rattle.dm_dump.specs.declared.inserts.InsertOrder.{InsertOrder}
use Rattle.dm_dump.specs.Literals.{has_bracket, literals_at, values_of}

-- each column once: so many names of columns, none of them twice
abbrev pub is_order : List Column → List Text → Bool
is_order columns order = length order == length columns && all_columns columns order && not (names_repeat order)

-- the columns of these names
abbrev pub columns_by : List Column → List Text → List Column
columns_by columns order = flat_map (λ n. option_to_list (column_at columns n)) order

-- columns stand in this order
abbrev pub stand_so : List Column → List Text → Bool
stand_so columns order = pointwise same_name (column_names columns) order

-- values in the order of the schema's columns
abbrev pub in_schema_order : List Column → List Text → List Value → List Value
in_schema_order columns order values = if stand_so columns order then values else values_at (columns_by columns order) values (column_names columns)

-- the values of the row whose bracket stands at a place: of a literal for each column
abbrev pub values_in : List ℕ → ℕ → List Text → List Column → Option (List Value)
values_in text at order columns =
    if has_bracket text at && is_order columns order
    then option_map (in_schema_order columns order) (values_of text (columns_by columns order) (literals_at text at))
    else None

-- the row whose bracket stands at a place
abbrev pub row_of : List ℕ → ℕ → List Text → Layout → Option (List Value)
row_of text at order layout = values_in text at order layout.columns

-- the order of literals in force at a place: the last whose first row isn't behind it
abbrev pub order_at : List InsertOrder → ℕ → Option InsertOrder
order_at orders at = find (λ o. nat_le o.first at) (reverse orders)

-- the row whose bracket stands at a place, in the order in force there
abbrev pub row_in_force : List ℕ → List InsertOrder → Layout → ℕ → Option (List Value)
row_in_force text orders layout at = option_and_then (λ o. row_of text at o.order layout) (order_at orders at)
