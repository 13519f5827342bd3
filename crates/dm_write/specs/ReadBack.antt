-- A dump that is written is read back as what was given.
use Rattle.std.specs.Prelude.{◌≡◌, ⊤, ℕ, ◌^◌, ◌<◌, IsTrue, nat_le, List, [], ◌∷◌, length, Some, Result, Ok}
use Rattle.dm_value.specs.declared.value.Value.{Value}
use Rattle.dm_schema.specs.Layout.{Layout}
use Rattle.dm_schema.specs.Names.{column_names}
use Rattle.dm_dump.specs.declared.fault.DumpFault.{DumpFault}
use Rattle.dm_dump.specs.declared.inserts.InsertOrder.{InsertOrder}
use Rattle.dm_dump.specs.declared.inserts.Inserts.{Inserts}
use Rattle.dm_dump.specs.declared.dump.Dump.{Dump}
use Rattle.dm_dump.specs.Orders.{row_of}
use Rattle.dm_dump.specs.Dumps.{IsDump}

-- The places are those of rows, one for each, and at each stands its row, in the schema's order.
abbrev pub StandAt : List ℕ → Layout → List ℕ → List (List Value) → Type 0
StandAt text layout [] [] = ⊤
StandAt text layout [] (row ∷ rows) = ⊥
StandAt text layout (at ∷ places) [] = ⊥
StandAt text layout (at ∷ places) (row ∷ rows) = (row_of text at (column_names layout.columns) layout ≡ Some row) × StandAt text layout places rows

-- rows have one order, from the first of them on: the schema's
abbrev pub orders_from : Layout → List ℕ → List InsertOrder
orders_from layout [] = []
orders_from layout (at ∷ places) = (record { first = at; order = column_names layout.columns }) ∷ []

-- the rows are read back, in the schema's order of columns
abbrev pub HasInserts : List ℕ → Layout → List (List Value) → Inserts → Type 0
HasInserts text layout rows inserts = StandAt text layout inserts.places rows × (inserts.orders ≡ orders_from layout inserts.places)

-- Whatever reading the text answers is the table, its schema and its rows. A reader refuses more than 256 columns, and
-- places have 32 bits.
abbrev pub IsReadBack : List ℕ → Layout → List (List Value) → List ℕ → Type 0
IsReadBack table layout rows text =
    IsTrue (nat_le (length layout.columns) 256) → length text < 2 ^ 32
    → (answer : Result Dump DumpFault) → IsDump text answer
    → (inserts : Inserts) × (answer ≡ Ok (record { table = table; schema = layout; inserts = inserts })) × HasInserts text layout rows inserts
