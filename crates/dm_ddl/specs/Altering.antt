-- The changes that an ALTER TABLE, a CREATE INDEX or a DROP INDEX says.
use Rattle.std.specs.Prelude.{ℕ, Bool, not, ◌&&◌, ◌||◌, List, [], ◌∷◌, ◌++◌, map, codes, Option, Some, None, if◌then◌else◌}
use Rattle.std.specs.Option.{option_map_or}
use Rattle.std.specs.List.{flat_map}
use Rattle.dm_list.specs.Answer.{first_refusal}
use Rattle.dm_schema.specs.declared.change.Change.{Change}
use Rattle.dm_schema.specs.declared.change.Change.TheVariants as change
use Rattle.dm_schema.specs.declared.change.Spot.{Spot}
use Rattle.dm_schema.specs.declared.change.Spot.TheVariants as spot
use Rattle.dm_schema.specs.declared.fault.EffectFault.{EffectFault}
use Rattle.dm_schema.specs.declared.fault.EffectFault.TheVariants as fault
use Rattle.dm_schema.specs.Names.{same_name}
use Rattle.dm_ddl.specs.declared.keys.WrittenKey.{WrittenKey}
use Rattle.dm_syntax.specs.declared.piece.Piece.{Piece}
use Rattle.dm_syntax.specs.declared.role.TheConstants as role
use Rattle.dm_syntax.specs.Pieces.{bytes_of, first_with, has_role}
use Rattle.dm_syntax.specs.Names.{folded_with}
use Rattle.dm_ddl.specs.Columns.{column_in, column_name, is_primary_column}
use Rattle.dm_ddl.specs.Keys.{unique_keys}

-- Columns.

abbrev pub is_added : List Piece → Bool
is_added item = has_role role.ADD item || has_role role.ADD_MORE item

-- FIRST, AFTER a column, or where it stands without: an added one last, another where it stood
abbrev pub spot_in : List ℕ → List Piece → Spot
spot_in text item =
    if has_role role.FIRST item then spot.First
    else if has_role role.AFTER_NAME item then spot.After (folded_with text role.AFTER_NAME item)
    else if is_added item then spot.Last
    else spot.Keep

-- NULL stands in the column's text, and AUTO_INCREMENT doesn't
abbrev pub null_written : List Piece → Bool
null_written item = has_role role.NULL_WRITTEN item && not (has_role role.AUTO_INCREMENT item)

-- CHANGE gives the column another name
abbrev pub renames_column : List ℕ → List Piece → Bool
renames_column text item = has_role role.OLD_NAME item && not (same_name (folded_with text role.OLD_NAME item) (column_name text item))

-- Why a change of a column is refused, whatever the schema: it renames the column, makes it the primary key, or adds one
-- with AUTO_INCREMENT, whose values nothing gives.
abbrev pub column_refusals : List ℕ → List Piece → List (Bool × EffectFault)
column_refusals text item =
    (renames_column text item, fault.Renames)
    ∷ (is_primary_column item, fault.PrimaryChange)
    ∷ (is_added item && has_role role.AUTO_INCREMENT item, fault.NoFill)
    ∷ []

abbrev pub column_change : List ℕ → List Piece → Change
column_change text item =
    if is_added item then change.Add (column_in text [] item) (spot_in text item)
    else change.Modify (column_in text [] item) (spot_in text item) (null_written item)

abbrev pub added_key : WrittenKey → Change
added_key k = change.AddUnique k.key k.named

-- a column, and behind it the unique key that its UNIQUE says
abbrev pub column_changes : List ℕ → List Piece → List Change
column_changes text item = by (first_refusal (column_refusals text item)) where
  by : Option EffectFault → List Change
  by (Some cause) = change.Refused cause ∷ []
  by None = column_change text item ∷ map added_key (unique_keys text item)

-- Keys and defaults.

-- no key but the primary one has the name PRIMARY
abbrev pub key_drop : List ℕ → Change
key_drop name = if same_name name (codes "primary") then change.Refused fault.PrimaryChange else change.DropKey name

-- the literal as it is written, with its minus; empty for DROP DEFAULT
abbrev pub default_text : List ℕ → List Piece → List ℕ
default_text text item = (if has_role role.MINUS item then 45 ∷ [] else []) ++ option_map_or (λ p. bytes_of text p.token) (first_with role.LITERAL item) []

-- Changes.

-- what a change says that renames, or has no effect
abbrev pub rename_or_none : List ℕ → List Piece → Option Change
rename_or_none text item =
    if has_role role.RENAMED_KEY item then Some (change.RenameKey (folded_with text role.RENAMED_KEY item))
    else if has_role role.RENAME item then Some (change.Refused fault.Renames)
    else if has_role role.PLAIN_KEY item || has_role role.PLAIN_INDEX item || has_role role.NO_EFFECT item then Some change.NoEffect
    else None

-- what a change that defines no column and no unique key says
abbrev pub other_change : List ℕ → List Piece → Option Change
other_change text item =
    if has_role role.PRIMARY_KEY item then Some (change.Refused fault.PrimaryChange)
    else if has_role role.DROPPED_COLUMN item then Some (change.Drop (folded_with text role.DROPPED_COLUMN item))
    else if has_role role.DROPPED_KEY item then Some (key_drop (folded_with text role.DROPPED_KEY item))
    else if has_role role.ALTERED item then Some (change.SetDefault (folded_with text role.ALTERED item) (default_text text item))
    else rename_or_none text item

abbrev pub if_some : Option Change → List Change
if_some None = []
if_some (Some c) = c ∷ []

-- what one change says; ADD before brackets says nothing by itself
abbrev pub changes_of : List ℕ → List Piece → List Change
changes_of text item =
    if has_role role.COLUMN_NAME item then column_changes text item
    else if has_role role.UNIQUE_KEY item || has_role role.UNIQUE_INDEX item then map added_key (unique_keys text item)
    else if_some (other_change text item)

-- the changes, from left to right
abbrev pub changes_in : List ℕ → List (List Piece) → List Change
changes_in text items = flat_map (changes_of text) items
