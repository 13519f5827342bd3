-- The schema that the definitions of a CREATE TABLE say.
use Rattle.std.specs.Prelude.{ℕ, Bool, nat_lt, List, [], ◌∷◌, ◌++◌, length, map, Result, Ok, Err, if◌then◌else◌}
use Rattle.std.specs.List.{list_any, filter, flat_map}
use Rattle.dm_schema.specs.declared.column.Column.{Column}
use Rattle.dm_schema.specs.declared.column.UniqueKey.{UniqueKey}
use Rattle.dm_schema.specs.declared.fault.SchemaFault.{SchemaFault}
use Rattle.dm_schema.specs.declared.fault.SchemaFault.TheVariants as fault
use Rattle.dm_schema.specs.Layout.{Layout}
use Rattle.dm_schema.specs.Schemas.{is_too_many, schema_of}
use Rattle.dm_schema.specs.Effect.{named_key}
use Rattle.dm_ddl.specs.declared.keys.WrittenKey.{WrittenKey}
use Rattle.dm_syntax.specs.declared.piece.Piece.{Piece}
use Rattle.dm_syntax.specs.declared.role.TheConstants as role
use Rattle.dm_syntax.specs.Pieces.{has_role}
use Rattle.dm_ddl.specs.Columns.{column_in, is_unfit}
use Rattle.dm_ddl.specs.Keys.{unique_keys, primary_keys}

abbrev pub columns_in : List ℕ → List (List ℕ) → List (List Piece) → List Column
columns_in text primary items = map (column_in text primary) (filter (has_role role.COLUMN_NAME) items)

-- the primary keys that are written
abbrev pub primaries_in : List ℕ → List (List Piece) → List (List (List ℕ))
primaries_in text items = flat_map (primary_keys text) items

-- the columns of all of them
abbrev pub all_columns_of : List (List (List ℕ)) → List (List ℕ)
all_columns_of keys = flat_map (λ key. key) keys

-- the unique keys, each named behind those before it
abbrev pub named_behind : List UniqueKey → List WrittenKey → List UniqueKey
named_behind before [] = before
named_behind before (k ∷ ks) = named_behind (before ++ named_key before k.key k.named ∷ []) ks

abbrev pub uniques_in : List ℕ → List (List Piece) → List UniqueKey
uniques_in text items = named_behind [] (flat_map (unique_keys text) items)

-- a default that is none of its column's values is the last fault
abbrev pub unless_unfit : Bool → Result Layout SchemaFault → Result Layout SchemaFault
unless_unfit unfit (Err e) = Err e
unless_unfit unfit (Ok schema) = if unfit then Err fault.DefaultUnfit else Ok schema

-- of two primary keys one is too many
abbrev pub created : List Column → List (List (List ℕ)) → List UniqueKey → Bool → Result Layout SchemaFault
created columns primaries uniques unfit =
    if nat_lt 1 (length primaries) then Err (if is_too_many columns uniques then fault.TooMany else fault.Duplicate)
    else unless_unfit unfit (schema_of columns (all_columns_of primaries) uniques)

abbrev pub schema_with : List ℕ → List (List Piece) → List (List (List ℕ)) → Result Layout SchemaFault
schema_with text items primaries =
    created (columns_in text (all_columns_of primaries) items) primaries (uniques_in text items)
    (list_any (is_unfit text (all_columns_of primaries)) items)

-- the schema of the definitions, or the first fault
abbrev pub schema_in : List ℕ → List (List Piece) → Result Layout SchemaFault
schema_in text items = schema_with text items (primaries_in text items)
