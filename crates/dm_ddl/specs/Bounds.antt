-- The numbers of types, and whether they are in range.
use Rattle.std.specs.Prelude.{ℕ, ◌^◌, ◌-◌, nat_lt, Bool, true, not, ◌&&◌, ◌==◌, nat_le, List, [], ◌∷◌, Option, None, if◌then◌else◌}
use Rattle.std.specs.Option.{option_map_or, option_or}
use Rattle.std.specs.List.{find}
use Rattle.dm_time.specs.Texts.{number_of}
use Rattle.dm_syntax.specs.declared.piece.Piece.{Piece}
use Rattle.dm_syntax.specs.declared.role.TheConstants as role
use Rattle.dm_syntax.specs.Pieces.{bytes_of, first_with, begins, parts}

-- a number, as far as 64 bits hold it: all ranges end far below
abbrev pub held : ℕ → ℕ
held n = if nat_lt n (2 ^ 64) then n else 2 ^ 64 - 1

-- the number that a piece writes
abbrev pub number_in : List ℕ → Piece → ℕ
number_in text p = held (number_of (bytes_of text p.token))

-- the number of a role, or another where none is written
abbrev pub number_or : List ℕ → ℕ → ℕ → List Piece → ℕ
number_or text its_role other item = option_map_or (number_in text) (first_with its_role item) other

-- DECIMAL without a precision has 10 digits
abbrev pub precision_in : List ℕ → List Piece → ℕ
precision_in text item = number_or text role.PRECISION 10 item

-- whether a number is in the range of its role, in an item of this precision
abbrev pub is_in_range : ℕ → ℕ → ℕ → Bool
is_in_range precision its_role n =
    if its_role == role.CHAR_LENGTH then nat_le n 255
    else if its_role == role.STRING_LENGTH then nat_le n 65535
    else if its_role == role.PRECISION then nat_le 1 n && nat_le n 38
    else if its_role == role.SCALE then nat_le n precision
    else if its_role == role.YEAR_WIDTH then n == 4
    else if its_role == role.FRACTION then nat_le n 6
    else if its_role == role.NOW_FRACTION then nat_le n 6
    else true

abbrev pub is_out_of_range : List ℕ → ℕ → Piece → Bool
is_out_of_range text precision p = not (is_in_range precision p.role (number_in text p))

-- the first piece of a definition or change whose number is out of range
abbrev pub excess_in : List ℕ → List Piece → Option Piece
excess_in text item = find (is_out_of_range text (precision_in text item)) item

-- What begins at a piece of one of these roles: a definition of a CREATE TABLE, a change of an ALTER TABLE, an index.
abbrev pub item_roles : List ℕ
item_roles =
    role.DEFINITION ∷ role.ADD ∷ role.ADD_MORE ∷ role.MODIFY ∷ role.CHANGE ∷ role.DROP ∷ role.ALTER ∷ role.RENAME ∷ role.NO_EFFECT
    ∷ role.UNIQUE_INDEX ∷ role.PLAIN_INDEX ∷ role.DROP_INDEX ∷ []

-- the definitions and changes of a statement
abbrev pub items_of : List Piece → List (List Piece)
items_of pieces = parts (begins item_roles) pieces

-- the first of them that has one
abbrev pub first_excess : List ℕ → List (List Piece) → Option Piece
first_excess text [] = None
first_excess text (item ∷ items) = option_or (excess_in text item) (first_excess text items)
