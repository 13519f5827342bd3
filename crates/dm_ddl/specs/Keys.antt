-- The keys that a definition or change says.
use Rattle.std.specs.Prelude.{ℕ, Bool, false, ◌&&◌, ◌||◌, List, [], ◌∷◌, if◌then◌else◌}
use Rattle.dm_ddl.specs.declared.keys.WrittenKey.{WrittenKey}
use Rattle.dm_syntax.specs.declared.piece.Piece.{Piece}
use Rattle.dm_syntax.specs.declared.role.TheConstants as role
use Rattle.dm_syntax.specs.Pieces.{has_role}
use Rattle.dm_syntax.specs.Names.{folded_with, all_folded_with}
use Rattle.dm_ddl.specs.Columns.{column_name, is_primary_column}

-- the columns of a key
abbrev pub key_parts : List ℕ → List Piece → List (List ℕ)
key_parts text item = all_folded_with text role.KEY_PART item

-- a key without a name of its own has its CONSTRAINT's
abbrev pub key_name : List ℕ → List Piece → List ℕ
key_name text item = if has_role role.KEY_NAME item then folded_with text role.KEY_NAME item else folded_with text role.CONSTRAINT_NAME item

abbrev pub is_named : List Piece → Bool
is_named item = has_role role.KEY_NAME item || has_role role.CONSTRAINT_NAME item

-- a key over columns, of which there is one at least
abbrev pub key_over : List ℕ → List Piece → List (List ℕ) → List WrittenKey
key_over text item [] = []
key_over text item (n ∷ ns) = (record { key = record { name = key_name text item; columns = n ∷ ns }; named = is_named item }) ∷ []

-- UNIQUE in a column's definition is a key over it, without a name
abbrev pub key_of_column : List ℕ → List WrittenKey
key_of_column name = (record { key = record { name = []; columns = name ∷ [] }; named = false }) ∷ []

-- the unique key that an item says, if it says one
abbrev pub unique_keys : List ℕ → List Piece → List WrittenKey
unique_keys text item =
    if has_role role.UNIQUE_COLUMN item then key_of_column (column_name text item)
    else if has_role role.UNIQUE_KEY item || has_role role.UNIQUE_INDEX item then key_over text item (key_parts text item)
    else []

-- the primary key that a definition says, if it says one
abbrev pub primary_keys : List ℕ → List Piece → List (List (List ℕ))
primary_keys text item =
    if has_role role.PRIMARY_KEY item then key_parts text item ∷ []
    else if has_role role.COLUMN_NAME item && is_primary_column item then (column_name text item ∷ []) ∷ []
    else []
