-- Names of tables.
use Rattle.std.specs.Prelude.{ℕ, Bool, not, List, [], ◌∷◌, map, Some, None, if◌then◌else◌}
use Rattle.std.specs.List.{filter}
use Rattle.dm_syntax.specs.declared.piece.Piece.{Piece}
use Rattle.dm_ddl.specs.declared.names.Named.{Named}
use Rattle.dm_syntax.specs.declared.role.TheConstants as role
use Rattle.dm_syntax.specs.Pieces.{has_role, begins, parts}
use Rattle.dm_syntax.specs.Names.{name_with}

-- [database.]table
abbrev pub table_in : List ℕ → List Piece → Named
table_in text part =
    if has_role role.NAME_SECOND part
    then record { db = Some (name_with text role.NAME_PART part); table = name_with text role.NAME_SECOND part }
    else record { db = None; table = name_with text role.NAME_PART part }

-- IF before EXISTS is no name
abbrev pub is_table_part : List Piece → Bool
is_table_part part = not (has_role role.EXISTS part)

-- the tables that a statement names
abbrev pub tables_in : List ℕ → List Piece → List Named
tables_in text pieces = map (table_in text) (filter is_table_part (parts (begins (role.NAME_PART ∷ [])) pieces))

abbrev pub no_table : Named
no_table = record { db = None; table = [] }

abbrev pub first_of : List Named → Named
first_of [] = no_table
first_of (t ∷ ts) = t

-- the table that a statement is about
abbrev pub first_table : List ℕ → List Piece → Named
first_table text pieces = first_of (tables_in text pieces)
