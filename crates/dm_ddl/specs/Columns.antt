-- The column that a definition or change says.
use Rattle.std.specs.Prelude.{ℕ, Bool, false, not, ◌&&◌, ◌||◌, ◌==◌, List, [], ◌∷◌, fold, Option, Some, None, is_none, unwrap_or, option_and_then, if◌then◌else◌}
use Rattle.dm_value.specs.declared.value.Value.{Value}
use Rattle.dm_schema.specs.declared.column.Kind.{Kind}
use Rattle.dm_schema.specs.declared.column.Column.{Column}
use Rattle.dm_schema.specs.declared.column.DefaultRule.{DefaultRule}
use Rattle.dm_schema.specs.declared.column.DefaultRule.TheVariants as default
use Rattle.dm_schema.specs.Effect.{is_among, rule_by}
use Rattle.dm_lex.specs.Literals.{literal_of}
use Rattle.dm_syntax.specs.declared.piece.Piece.{Piece}
use Rattle.dm_syntax.specs.declared.role.TheConstants as role
use Rattle.dm_syntax.specs.Pieces.{bytes_of, first_with, has_role, begins, parts}
use Rattle.dm_syntax.specs.Names.{folded_with}
use Rattle.dm_ddl.specs.Types.{kind_in}

-- the value that a literal has for a kind
abbrev pub literal_in : List ℕ → Kind → List Piece → Option Value
literal_in text k pieces = option_and_then (λ p. literal_of k (has_role role.MINUS pieces) p.token.kind (bytes_of text p.token)) (first_with role.LITERAL pieces)

-- of several defaults the last counts
abbrev pub last_of : List (List Piece) → Option (List Piece)
last_of all = fold (λ last part. Some part) None all

abbrev pub last_default : List Piece → Option (List Piece)
last_default item = last_of (parts (begins (role.DEFAULT ∷ [])) item)

-- the rule of a DEFAULT, if there is one; none where its literal is none of the column's values
abbrev pub rule_in : List ℕ → Kind → Bool → Option (List Piece) → Option DefaultRule
rule_in text k nullable None = Some default.Nothing
rule_in text k nullable (Some pieces) = if has_role role.NOW pieces then Some default.Now else rule_by nullable (literal_in text k pieces)

-- A column with AUTO_INCREMENT or NOT NULL is never nullable; a column of the primary key is where NULL is written, any
-- other is.
abbrev pub nullable_in : List (List ℕ) → List ℕ → List Piece → Bool
nullable_in primary name item =
    not (has_role role.AUTO_INCREMENT item) && not (has_role role.NOT_NULL item) && (has_role role.NULL_WRITTEN item || not (is_among primary name))

abbrev pub column_name : List ℕ → List Piece → List ℕ
column_name text item = folded_with text role.COLUMN_NAME item

abbrev pub default_in : List ℕ → List (List ℕ) → List Piece → Option DefaultRule
default_in text primary item = rule_in text (kind_in text item) (nullable_in primary (column_name text item) item) (last_default item)

-- a column whose default is none of its values
abbrev pub is_unfit : List ℕ → List (List ℕ) → List Piece → Bool
is_unfit text primary item = has_role role.COLUMN_NAME item && is_none (default_in text primary item)

-- the column, where these are the primary key's columns
abbrev pub column_in : List ℕ → List (List ℕ) → List Piece → Column
column_in text primary item = record {
  name = column_name text item;
  kind = kind_in text item;
  nullable = nullable_in primary (column_name text item) item;
  default_rule = unwrap_or (default_in text primary item) default.Nothing;
}

-- KEY makes a column the primary key, but where it stands right behind UNIQUE, to which it then belongs
abbrev pub is_key_from : Bool → List Piece → Bool
is_key_from behind_unique [] = false
is_key_from behind_unique (p ∷ ps) = p.role == role.KEY_COLUMN && not behind_unique || is_key_from (p.role == role.UNIQUE_COLUMN) ps

abbrev pub is_primary_column : List Piece → Bool
is_primary_column item = is_key_from false item
