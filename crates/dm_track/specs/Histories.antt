-- The history of a shard.
use Rattle.std.specs.Prelude.{ℕ, zero, suc, ◌+◌, Bool, true, false, List, [], ◌∷◌, length, take, slice_get, Option, None, unwrap_or}
use Rattle.std.specs.List.{filter}
use Rattle.dm_schema.specs.Layout.{Layout}
use Rattle.dm_schema.specs.Names.{Text}
use Rattle.dm_schema.specs.declared.table_name.TableName.{TableName}
use Rattle.dm_walk.specs.declared.item.Item.{Item}
use Rattle.dm_walk.specs.declared.item.Item.TheVariants as item
use Rattle.dm_track.specs.declared.history.Bad.{Bad}
use Rattle.dm_track.specs.declared.history.FileOrders.{FileOrders}

-- Items are numbered from 1. At position p items 1 to p are done.
pub record History : Type 0 where
  pub name : Text  -- source and quoted table
  pub target : TableName
  pub first : Layout  -- the schema of its dump
  pub later : List Layout  -- the schema behind each statement, in turn
  pub items : List Item
  pub orders : List FileOrders  -- of the files of its rows that have some
  pub bad : Option Bad  -- why it ends before its files do

abbrev pub is_ddl : Item → Bool
is_ddl (item.Row place) = false
is_ddl (item.Ddl place) = true

-- how many of the first items are statements
abbrev pub ddls_before : ℕ → List Item → ℕ
ddls_before position items = length (filter is_ddl (take position items))

-- the numbers of the statements among items, of which the first has this number
abbrev pub ddl_numbers : ℕ → List Item → List ℕ
ddl_numbers number [] = []
ddl_numbers number (item.Row place ∷ items) = ddl_numbers (number + 1) items
ddl_numbers number (item.Ddl place ∷ items) = number ∷ ddl_numbers (number + 1) items

-- the schema at a position: behind as many statements as are done
abbrev pub schema_at : History → ℕ → Layout
schema_at h position = unwrap_or (slice_get (h.first ∷ h.later) (ddls_before position h.items)) h.first

-- the item of a number, from 1
abbrev pub item_of : History → ℕ → Option Item
item_of h zero = None
item_of h (suc position) = slice_get h.items position

-- how many values the rows of items have, by the schemas at them
abbrev pub values_from : Layout → List Layout → List Item → ℕ
values_from layout later [] = 0
values_from layout later (item.Row place ∷ items) = length layout.columns + values_from layout later items
values_from layout [] (item.Ddl place ∷ items) = values_from layout [] items
values_from layout (next ∷ later) (item.Ddl place ∷ items) = values_from next later items

abbrev pub values_of : History → ℕ
values_of h = values_from h.first h.later h.items
