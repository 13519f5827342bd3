-- The rows of dumps, over the join of their schemas.
use Rattle.std.specs.Prelude.{ℕ, ◌==◌, List, [], ◌∷◌, ◌++◌, map, Option, Some, None, unwrap_or, option_and_then, if◌then◌else◌}
use Rattle.std.specs.List.{flat_map}
use Rattle.std.specs.Option.{option_or}
use Rattle.dm_value.specs.declared.value.Value.{Value}
use Rattle.dm_value.specs.declared.value.Value.TheVariants as value
use Rattle.dm_schema.specs.declared.column.Column.{Column}
use Rattle.dm_schema.specs.Layout.{Layout}
use Rattle.dm_schema.specs.Names.{Text}
use Rattle.dm_schema.specs.Fill.{fill}
use Rattle.dm_schema.specs.Rows.{cell, key_of}
use Rattle.dm_dump.specs.declared.inserts.InsertOrder.{InsertOrder}
use Rattle.dm_dump.specs.Orders.{row_of}
use Rattle.dm_dump.specs.declared.dump.Dump.{Dump}

-- a text and the dump that it says
pub record Said : Type 0 where
  pub text : Text
  pub dump : Dump

-- a row, its values in some order of the columns
abbrev pub Row : Type 0
Row = List Value

-- a row under its primary key
abbrev pub Entry : Type 0
Entry = Row × Row

-- Orders of columns: the one in force, and those still to come, each from its first row on.
pub record Orders : Type 0 where
  pub now : Option (List Text)
  pub coming : List InsertOrder

-- the orders at a place
abbrev pub orders_at : ℕ → Orders → Orders
orders_at at o = by o.coming where
  by : List InsertOrder → Orders
  by [] = o
  by (next ∷ coming) = if next.first == at then record { now = Some next.order; coming = coming } else o

-- the row at a place in the order that is in force, where one stands there
abbrev pub row_under : Text → Layout → Orders → ℕ → List Row
row_under text schema o at = by (option_and_then (λ order. row_of text at order schema) o.now) where
  by : Option Row → List Row
  by None = []
  by (Some row) = row ∷ []

-- the rows at these places, each in the order that is in force there
abbrev pub rows_from : Text → Layout → Orders → List ℕ → List Row
rows_from text schema o [] = []
rows_from text schema o (at ∷ places) = row_under text schema (orders_at at o) at ++ rows_from text schema (orders_at at o) places

abbrev pub rows_in : Said → List Row
rows_in s = rows_from s.text s.dump.schema (record { now = None; coming = s.dump.inserts.orders }) s.dump.inserts.places

-- a row's value in a column of the join; where its own schema lacks the column, the column's fill
abbrev pub widened_cell : List Column → Row → Column → Value
widened_cell columns row c = unwrap_or (option_or (cell columns row c.name) (fill c)) value.Null

abbrev pub widened : List Column → List Column → Row → Row
widened joined columns row = map (widened_cell columns row) joined

-- a row over the join, under its primary key
abbrev pub entry_of : Layout → List Column → Row → Entry
entry_of joined columns row = (key_of joined (widened joined.columns columns row), widened joined.columns columns row)

abbrev pub entries_of : Layout → Said → List Entry
entries_of joined said = map (entry_of joined said.dump.schema.columns) (rows_in said)

abbrev pub all_entries : Layout → List Said → List Entry
all_entries joined said = flat_map (entries_of joined) said
