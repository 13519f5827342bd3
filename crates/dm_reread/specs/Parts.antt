-- Written texts as their parts: blanks, and tokens with their bytes.
use Rattle.std.specs.Prelude.{ℕ, suc, ℤ, pos, negsuc, int_lt, unsigned_abs, ◌+◌, ◌/◌, ◌^◌, nat_lt, Bool, true, false, not, ◌&&◌, ◌||◌, ◌==◌, List, [], ◌∷◌, ◌++◌, map, length, None, codes, if◌then◌else◌}
use Rattle.std.specs.List.{flat_map, list_all}
use Rattle.std.specs.Fmt.{decimal}
use Rattle.dm_value.specs.declared.value.Dec.{Dec}
use Rattle.dm_value.specs.declared.value.Value.{Value}
use Rattle.dm_value.specs.declared.value.Value.TheVariants as value
use Rattle.dm_schema.specs.declared.column.Kind.{Kind}
use Rattle.dm_schema.specs.declared.column.Kind.TheVariants as kind
use Rattle.dm_schema.specs.declared.column.Column.{Column}
use Rattle.dm_schema.specs.declared.column.UniqueKey.{UniqueKey}
use Rattle.dm_schema.specs.declared.column.DefaultRule.{DefaultRule}
use Rattle.dm_schema.specs.declared.column.DefaultRule.TheVariants as default
use Rattle.dm_schema.specs.declared.table_name.TableName.{TableName}
use Rattle.dm_schema.specs.Layout.{Layout}
use Rattle.dm_time.specs.Written.{day_text, moment_text, stamp_text}
use Rattle.dm_text.specs.Names.{quoted}
use Rattle.dm_text.specs.Kinds.{integer_text, prefix_text, fraction_digits, is_binary}
use Rattle.dm_text.specs.Values.{in_quotes, string_text, binary_text, places_text}
use Rattle.dm_lex.specs.declared.token.Token.{Token}
use Rattle.dm_lex.specs.declared.token.TokenKind.{TokenKind}
use Rattle.dm_lex.specs.declared.token.TokenKind.TheVariants as token
use Rattle.dm_lex.specs.declared.lexeme.Lexeme.{Lexeme}
use Rattle.dm_lex.specs.declared.lexeme.Lexeme.TheVariants as lexeme
use Rattle.dm_lex.specs.Tokens.{Lexed}
use Rattle.dm_lex.specs.Lexemes.{is_blank, is_word_byte, at_front, lexeme_of}
use Rattle.dm_syntax.specs.Pieces.{bytes_of}

-- A part of a written text: a blank or a line's end, by its byte, or a token.
pub data Part : Type 0 where
  Blank : ℕ → Part
  Piece : TokenKind → List ℕ → Part

abbrev pub part_bytes : Part → List ℕ
part_bytes (Blank b) = b ∷ []
part_bytes (Piece kind bytes) = bytes

abbrev pub text_of : List Part → List ℕ
text_of parts = flat_map part_bytes parts

-- the tokens of parts whose text begins at a place
abbrev pub tokens_from : ℕ → List Part → List Token
tokens_from at [] = []
tokens_from at (Blank b ∷ parts) = tokens_from (at + 1) parts
tokens_from at (Piece kind bytes ∷ parts) = (record { kind = kind; from = at; to = at + length bytes }) ∷ tokens_from (at + length bytes) parts

-- these tokens, and no fault
abbrev pub lexed_as : ℕ → List Part → Lexed
lexed_as at parts = record { tokens = tokens_from at parts; fault = None }

-- a token without its place
pub record Spelling : Type 0 where
  pub kind : TokenKind
  pub bytes : List ℕ

abbrev pub spelling_of : List ℕ → Token → Spelling
spelling_of text t = record { kind = t.kind; bytes = bytes_of text t }

abbrev pub spelled : List Part → List Spelling
spelled [] = []
spelled (Blank b ∷ parts) = spelled parts
spelled (Piece kind bytes ∷ parts) = (record { kind = kind; bytes = bytes }) ∷ spelled parts

-- How parts are read.

abbrev pub same_kind : TokenKind → TokenKind → Bool
same_kind token.Word token.Word = true
same_kind token.Quoted token.Quoted = true
same_kind token.Text token.Text = true
same_kind token.Hex token.Hex = true
same_kind token.Number token.Number = true
same_kind token.Mark token.Mark = true
same_kind _ _ = false

-- a token of this kind, of so many bytes
abbrev pub is_piece : TokenKind → ℕ → Lexeme → Bool
is_piece kind n (lexeme.Gap m) = false
is_piece kind n (lexeme.Piece k m) = same_kind kind k && n == m
is_piece kind n lexeme.Open = false
is_piece kind n lexeme.NotHex = false

-- Each part before a text is one lexeme: a blank, or a token of its kind and of all its bytes, whatever stands behind.
abbrev pub is_spelled_before : List ℕ → List Part → Bool
is_spelled_before behind [] = true
is_spelled_before behind (Blank b ∷ parts) = is_blank b && is_spelled_before behind parts
is_spelled_before behind (Piece kind bytes ∷ parts) =
    is_piece kind (length bytes) (lexeme_of (bytes ++ (text_of parts ++ behind))) && is_spelled_before behind parts

abbrev pub is_spelled : List Part → Bool
is_spelled parts = is_spelled_before [] parts

-- what may go on with a token: what a word has, a point, a single quote, a backquote
abbrev pub goes_on : ℕ → Bool
goes_on b = is_word_byte b || b == 46 || b == 39 || b == 96

-- A text that goes on with no token before it: it begins with a blank, a comma, a bracket, a semicolon or the like, or
-- is empty.
abbrev pub may_follow : List ℕ → Bool
may_follow text = not (at_front goes_on text)

-- Words and marks.

abbrev pub word : List ℕ → Part
word bytes = Piece token.Word bytes

abbrev pub mark : ℕ → Part
mark byte = Piece token.Mark (byte ∷ [])

abbrev pub number : ℕ → Part
number n = Piece token.Number (decimal n)

-- parts in brackets
abbrev pub bracketed : List Part → List Part
bracketed parts = mark 40 ∷ (parts ++ mark 41 ∷ [])

abbrev pub behind_comma : List Part → List Part
behind_comma item = mark 44 ∷ item

-- items with commas between them
abbrev pub comma_parts : List (List Part) → List Part
comma_parts [] = []
comma_parts (item ∷ items) = item ++ flat_map behind_comma items

-- Names.

-- a name in backquotes
abbrev pub name_part : List ℕ → Part
name_part name = Piece token.Quoted (quoted name)

abbrev pub name_item : List ℕ → List Part
name_item name = name_part name ∷ []

abbrev pub name_list_parts : List (List ℕ) → List Part
name_list_parts names = bracketed (comma_parts (map name_item names))

abbrev pub table_name_parts : TableName → List Part
table_name_parts t = name_part t.db ∷ mark 46 ∷ name_part t.table ∷ []

-- Values.

-- a number, behind a minus where it is negative
abbrev pub signed_parts : Bool → List ℕ → List Part
signed_parts true digits = mark 45 ∷ Piece token.Number digits ∷ []
signed_parts false digits = Piece token.Number digits ∷ []

abbrev pub integer_parts : ℤ → List Part
integer_parts (pos n) = signed_parts false (decimal n)
integer_parts (negsuc n) = signed_parts true (decimal (suc n))

-- the digits and the point of a decimal without its sign
abbrev pub decimal_digits : Dec → List ℕ
decimal_digits d = decimal (unsigned_abs d.digits / 10 ^ d.scale) ++ places_text d.scale (unsigned_abs d.digits)

abbrev pub decimal_parts : Dec → List Part
decimal_parts d = signed_parts (int_lt d.digits (pos 0)) (decimal_digits d)

abbrev pub text_part : List ℕ → Part
text_part text = Piece token.Text (in_quotes text)

-- bytes in base 16, or an empty string
abbrev pub binary_part : List ℕ → Part
binary_part [] = Piece token.Text (binary_text [])
binary_part (b ∷ bytes) = Piece token.Hex (binary_text (b ∷ bytes))

abbrev pub bytes_part : Bool → List ℕ → Part
bytes_part true bytes = binary_part bytes
bytes_part false bytes = Piece token.Text (string_text bytes)

abbrev pub value_parts : Kind → Value → List Part
value_parts k value.Null = word (codes "NULL") ∷ []
value_parts k (value.Int n) = integer_parts n
value_parts k (value.Dec d) = decimal_parts d
value_parts k (value.Bytes bytes) = bytes_part (is_binary k) bytes ∷ []
value_parts k (value.Date d) = text_part (day_text d) ∷ []
value_parts k (value.Moment m) = text_part (moment_text (fraction_digits k) m) ∷ []
value_parts k (value.Stamp s) = text_part (stamp_text (fraction_digits k) s) ∷ []

-- the parts of a row's values, by the kinds of the columns
abbrev pub all_value_parts : List Column → List Value → List (List Part)
all_value_parts [] row = []
all_value_parts (c ∷ cs) [] = []
all_value_parts (c ∷ cs) (v ∷ vs) = value_parts c.kind v ∷ all_value_parts cs vs

abbrev pub tuple_parts : List Column → List Value → List Part
tuple_parts columns row = bracketed (comma_parts (all_value_parts columns row))

-- bytes have 8 bits
abbrev pub are_bytes : List ℕ → Bool
are_bytes bytes = list_all (λ b. nat_lt b 256) bytes

abbrev pub has_bytes : Value → Bool
has_bytes value.Null = true
has_bytes (value.Int n) = true
has_bytes (value.Dec d) = true
has_bytes (value.Bytes bytes) = are_bytes bytes
has_bytes (value.Date d) = true
has_bytes (value.Moment m) = true
has_bytes (value.Stamp s) = true

abbrev pub default_has_bytes : Column → Bool
default_has_bytes c = by c.default_rule where
  by : DefaultRule → Bool
  by default.Nothing = true
  by (default.Const v) = has_bytes v
  by default.Now = true

-- Kinds.

-- a word and a number in brackets
abbrev pub sized : List ℕ → ℕ → List Part
sized bytes size = word bytes ∷ bracketed (number size ∷ [])

abbrev pub fraction_parts : ℕ → List Part
fraction_parts digits = if digits == 0 then [] else bracketed (number digits ∷ [])

abbrev pub kind_parts : Kind → List Part
kind_parts (kind.Signed size) = word (integer_text size) ∷ []
kind_parts (kind.Unsigned size) = word (integer_text size) ∷ Blank 32 ∷ word (codes "UNSIGNED") ∷ []
kind_parts (kind.Decimal precision scale) = word (codes "DECIMAL") ∷ bracketed (number precision ∷ mark 44 ∷ number scale ∷ [])
kind_parts (kind.Char most) = sized (codes "CHAR") most
kind_parts (kind.Varchar most) = sized (codes "VARCHAR") most
kind_parts (kind.Text prefix) = word (prefix_text prefix ++ codes "TEXT") ∷ []
kind_parts (kind.Binary size) = sized (codes "BINARY") size
kind_parts (kind.Varbinary most) = sized (codes "VARBINARY") most
kind_parts (kind.Blob prefix) = word (prefix_text prefix ++ codes "BLOB") ∷ []
kind_parts kind.Date = word (codes "DATE") ∷ []
kind_parts kind.Year = word (codes "YEAR") ∷ []
kind_parts (kind.Datetime digits) = word (codes "DATETIME") ∷ fraction_parts digits
kind_parts (kind.Timestamp digits) = word (codes "TIMESTAMP") ∷ fraction_parts digits

-- Columns and tables.

abbrev pub nullable_parts : Bool → List Part
nullable_parts true = Blank 32 ∷ word (codes "NULL") ∷ []
nullable_parts false = Blank 32 ∷ word (codes "NOT") ∷ Blank 32 ∷ word (codes "NULL") ∷ []

abbrev pub default_parts : Kind → DefaultRule → List Part
default_parts k default.Nothing = []
default_parts k (default.Const v) = Blank 32 ∷ word (codes "DEFAULT") ∷ Blank 32 ∷ value_parts k v
default_parts k default.Now = Blank 32 ∷ word (codes "DEFAULT") ∷ Blank 32 ∷ word (codes "CURRENT_TIMESTAMP") ∷ fraction_parts (fraction_digits k)

-- `name` TYPE NULL DEFAULT value
abbrev pub column_parts : Column → List Part
column_parts c = name_part c.name ∷ Blank 32 ∷ (kind_parts c.kind ++ (nullable_parts c.nullable ++ default_parts c.kind c.default_rule))

-- a column of a create, and what parts it from what follows
abbrev pub column_item : Column → List Part
column_item c = column_parts c ++ mark 44 ∷ Blank 32 ∷ []

abbrev pub primary_parts : List (List ℕ) → List Part
primary_parts names = word (codes "PRIMARY") ∷ Blank 32 ∷ word (codes "KEY") ∷ Blank 32 ∷ name_list_parts names

-- a unique key of a create, behind what parts it from what comes before
abbrev pub unique_item : UniqueKey → List Part
unique_item k = mark 44 ∷ Blank 32 ∷ word (codes "UNIQUE") ∷ Blank 32 ∷ word (codes "KEY") ∷ Blank 32 ∷ name_part k.name ∷ Blank 32 ∷ name_list_parts k.columns

-- columns, the primary key and the unique keys
abbrev pub layout_parts : Layout → List Part
layout_parts layout = flat_map column_item layout.columns ++ (primary_parts layout.primary ++ flat_map unique_item layout.uniques)

-- a table of any name
abbrev pub create_parts : List Part → Layout → List Part
create_parts name layout =
    word (codes "CREATE") ∷ Blank 32 ∷ word (codes "TABLE") ∷ Blank 32 ∷ (name ++ (Blank 32 ∷ mark 40 ∷ (layout_parts layout ++ mark 41 ∷ mark 59 ∷ Blank 10 ∷ [])))
