-- What reading an event gives again.
use Rattle.std.specs.Prelude.{◌≡◌, ℕ, Bool, List, [], ◌∷◌, ◌++◌, length, drop, None, Ok}
use Rattle.dm_value.specs.declared.value.Value.{Value}
use Rattle.dm_schema.specs.Layout.{Layout}
use Rattle.dm_binlog.specs.declared.bodies.ColumnMap.{ColumnMap}
use Rattle.dm_binlog.specs.Framing.{Whole, event_at, events_of, front_of, magic}
use Rattle.dm_decode.specs.Rows.{row_of}

-- A whole event of a type, whatever stands behind it.
abbrev pub IsWholeEvent : ℕ → List ℕ → Type 0
IsWholeEvent kind event = (last : Bool) (behind : List ℕ) → front_of last (event ++ behind) ≡ Whole kind (length event)

-- A file of the first four bytes and this one event has it as its only event, and no fault.
abbrev pub IsOnlyEvent : ℕ → List ℕ → Type 0
IsOnlyEvent kind event = (last : Bool) → events_of (magic ++ event) 4 last ≡ record { list = event_at kind (length event) 4 ∷ []; fault = None }

-- The bytes are these rows, one behind another, and nothing is behind the last.
abbrev pub ReadsRows : List ColumnMap → Layout → List ℕ → List (List Value) → Type 0
ReadsRows maps layout bytes [] = bytes ≡ []
ReadsRows maps layout bytes (row ∷ rows) = (taken : ℕ) × (row_of maps layout bytes ≡ Ok (row, taken)) × ReadsRows maps layout (drop taken bytes) rows
