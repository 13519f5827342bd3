-- The tokens of a written CREATE TABLE, with what each is for.
use Rattle.std.proofs.Common.{◌==◌, ℕ, Bool, true, false, List, [], ◌∷◌, ◌++◌, map}
use Rattle.std.specs.Prelude.{codes, if◌then◌else◌}
use Rattle.std.specs.List.{flat_map}
use Rattle.std.specs.Fmt.{decimal}
use Rattle.dm_schema.specs.declared.column.Kind.{Kind}
use Rattle.dm_schema.specs.declared.column.Kind.TheVariants as kind
use Rattle.dm_schema.specs.declared.column.Column.{Column}
use Rattle.dm_schema.specs.declared.column.UniqueKey.{UniqueKey}
use Rattle.dm_schema.specs.declared.column.DefaultRule.{DefaultRule}
use Rattle.dm_schema.specs.declared.column.DefaultRule.TheVariants as default
use Rattle.dm_schema.specs.Layout.{Layout}
use Rattle.dm_text.specs.Names.{quoted}
use Rattle.dm_text.specs.Kinds.{integer_text, prefix_text, fraction_digits}
use Rattle.dm_lex.specs.declared.token.TokenKind.TheVariants as token
use Rattle.dm_grammar.specs.Grammar.{Letter}
use Rattle.dm_syntax.specs.declared.role.TheConstants as role
use Rattle.dm_reread.specs.Parts.{Spelling, spelled, value_parts}
use Rattle.dm_write.proofs.StatementTokens.{terminal_seen}

-- a written token, and what it is for
pub record Sign : Type 0 where
  pub spelling : Spelling
  pub role : ℕ

abbrev pub letter_of : Sign → Letter
letter_of s = (terminal_seen s.spelling, s.role)

abbrev pub letters_of : List Sign → List Letter
letters_of signs = map letter_of signs

abbrev pub spellings : List Sign → List Spelling
spellings signs = map (λ s. s.spelling) signs

abbrev pub word : List ℕ → ℕ → Sign
word bytes its_role = record { spelling = record { kind = token.Word; bytes = bytes }; role = its_role }

abbrev pub mark : ℕ → ℕ → Sign
mark byte its_role = record { spelling = record { kind = token.Mark; bytes = byte ∷ [] }; role = its_role }

abbrev pub number : ℕ → ℕ → Sign
number n its_role = record { spelling = record { kind = token.Number; bytes = decimal n }; role = its_role }

abbrev pub name : List ℕ → ℕ → Sign
name text its_role = record { spelling = record { kind = token.Quoted; bytes = quoted text }; role = its_role }

-- Kinds.

abbrev pub in_brackets : ℕ → ℕ → List Sign
in_brackets n its_role = mark 40 role.FILLER ∷ number n its_role ∷ mark 41 role.FILLER ∷ []

abbrev pub fraction_signs : ℕ → ℕ → List Sign
fraction_signs its_role digits = if digits == 0 then [] else in_brackets digits its_role

abbrev pub kind_signs : Kind → List Sign
kind_signs (kind.Signed size) = word (integer_text size) role.TYPE ∷ []
kind_signs (kind.Unsigned size) = word (integer_text size) role.TYPE ∷ word (codes "UNSIGNED") role.UNSIGNED ∷ []
kind_signs (kind.Decimal precision scale) =
    word (codes "DECIMAL") role.TYPE ∷ mark 40 role.FILLER ∷ number precision role.PRECISION ∷ mark 44 role.FILLER ∷ number scale role.SCALE ∷ mark 41 role.FILLER ∷ []
kind_signs (kind.Char most) = word (codes "CHAR") role.TYPE ∷ in_brackets most role.CHAR_LENGTH
kind_signs (kind.Varchar most) = word (codes "VARCHAR") role.TYPE ∷ in_brackets most role.STRING_LENGTH
kind_signs (kind.Text prefix) = word (prefix_text prefix ++ codes "TEXT") role.TYPE ∷ []
kind_signs (kind.Binary size) = word (codes "BINARY") role.TYPE ∷ in_brackets size role.CHAR_LENGTH
kind_signs (kind.Varbinary most) = word (codes "VARBINARY") role.TYPE ∷ in_brackets most role.STRING_LENGTH
kind_signs (kind.Blob prefix) = word (prefix_text prefix ++ codes "BLOB") role.TYPE ∷ []
kind_signs kind.Date = word (codes "DATE") role.TYPE ∷ []
kind_signs kind.Year = word (codes "YEAR") role.TYPE ∷ []
kind_signs (kind.Datetime digits) = word (codes "DATETIME") role.TYPE ∷ fraction_signs role.FRACTION digits
kind_signs (kind.Timestamp digits) = word (codes "TIMESTAMP") role.TYPE ∷ fraction_signs role.FRACTION digits

-- Columns.

abbrev pub nullable_signs : Bool → List Sign
nullable_signs true = word (codes "NULL") role.NULL_WRITTEN ∷ []
nullable_signs false = word (codes "NOT") role.NOT_NULL ∷ word (codes "NULL") role.FILLER ∷ []

-- a literal, behind a minus where there are two tokens
abbrev pub value_signs : List Spelling → List Sign
value_signs [] = []
value_signs (s ∷ []) = (record { spelling = s; role = role.LITERAL }) ∷ []
value_signs (m ∷ s ∷ more) = (record { spelling = m; role = role.MINUS }) ∷ (record { spelling = s; role = role.LITERAL }) ∷ map (λ z. record { spelling = z; role = role.FILLER }) more

abbrev pub default_signs : Kind → DefaultRule → List Sign
default_signs k default.Nothing = []
default_signs k (default.Const v) = word (codes "DEFAULT") role.DEFAULT ∷ value_signs (spelled (value_parts k v))
default_signs k default.Now = word (codes "DEFAULT") role.DEFAULT ∷ word (codes "CURRENT_TIMESTAMP") role.NOW ∷ fraction_signs role.NOW_FRACTION (fraction_digits k)

abbrev pub attribute_signs : Column → List Sign
attribute_signs c = nullable_signs c.nullable ++ default_signs c.kind c.default_rule

abbrev pub column_signs : Column → List Sign
column_signs c = name c.name role.COLUMN_NAME ∷ kind_signs c.kind ++ attribute_signs c

-- Keys.

abbrev pub part_sign : List ℕ → Sign
part_sign text = name text role.KEY_PART

abbrev pub more_part : List ℕ → List Sign
more_part text = mark 44 role.FILLER ∷ part_sign text ∷ []

abbrev pub part_signs : List (List ℕ) → List Sign
part_signs [] = []
part_signs (n ∷ ns) = part_sign n ∷ flat_map more_part ns

abbrev pub names_signs : List (List ℕ) → List Sign
names_signs names = mark 40 role.FILLER ∷ part_signs names ++ mark 41 role.FILLER ∷ []

abbrev pub primary_signs : List (List ℕ) → List Sign
primary_signs names = word (codes "PRIMARY") role.FILLER ∷ word (codes "KEY") role.PRIMARY_KEY ∷ names_signs names

abbrev pub unique_signs : UniqueKey → List Sign
unique_signs k = word (codes "UNIQUE") role.UNIQUE_KEY ∷ word (codes "KEY") role.FILLER ∷ name k.name role.KEY_NAME ∷ names_signs k.columns

abbrev pub more_unique : UniqueKey → List Sign
more_unique k = mark 44 role.DEFINITION ∷ unique_signs k

-- The whole statement.

abbrev pub definition_signs : List Column → List (List ℕ) → List UniqueKey → List Sign
definition_signs [] primary uniques = primary_signs primary ++ flat_map more_unique uniques
definition_signs (c ∷ cs) primary uniques = column_signs c ++ mark 44 role.DEFINITION ∷ definition_signs cs primary uniques

abbrev pub create_signs : List ℕ → Layout → List Sign
create_signs table layout =
    word (codes "CREATE") role.FILLER ∷ word (codes "TABLE") role.CREATE_TABLE ∷ name table role.NAME_PART ∷ mark 40 role.DEFINITION
    ∷ definition_signs layout.columns layout.primary layout.uniques ++ mark 41 role.FILLER ∷ []
