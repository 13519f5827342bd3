-- The units of a dump: a statement's beginning, or one row.
use Rattle.std.specs.Prelude.{ℕ, Bool, false, ◌==◌, ◌&&◌, List, [], ◌∷◌, length}
use Rattle.std.specs.List.{before_first}
use Rattle.dm_syntax.specs.declared.piece.Piece.{Piece}
use Rattle.dm_syntax.specs.Pieces.{begins, parts, has_role}
use Rattle.dm_dump.specs.declared.role.TheConstants as role

-- a unit begins at a `;`, at a statement's first word, and at a row's bracket
abbrev pub begins_unit : Piece → Bool
begins_unit = begins (role.END ∷ role.PASSED ∷ role.CREATE ∷ role.INSERT ∷ role.ROW_OPEN ∷ [])

-- the units, each up to the next
abbrev pub units : List Piece → List (List Piece)
units [] = []
units (p ∷ ps) = (p ∷ before_first begins_unit ps) ∷ parts begins_unit ps

-- whether a unit begins with a role
abbrev pub begins_with : ℕ → List Piece → Bool
begins_with its_role [] = false
begins_with its_role (p ∷ ps) = p.role == its_role

-- where a unit begins
abbrev pub place_of : ℕ → List Piece → ℕ
place_of other [] = other
place_of other (p ∷ ps) = p.token.from

-- where the next unit begins, or the text's end
abbrev pub next_place : List ℕ → List (List Piece) → ℕ
next_place text [] = length text
next_place text (u ∷ us) = place_of (length text) u

-- a CREATE TABLE
abbrev pub is_create : List Piece → Bool
is_create unit = begins_with role.CREATE unit && has_role role.TABLE unit
