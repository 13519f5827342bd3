-- How the parts of a value are read.
use Rattle.std.specs.Prelude.{◌≡◌, ℕ, Bool, true, false, List, [], ◌∷◌, map, codes, Some, Ok}
use Rattle.dm_value.specs.declared.value.Value.{Value}
use Rattle.dm_value.specs.declared.value.Value.TheVariants as value
use Rattle.dm_schema.specs.declared.column.Kind.{Kind}
use Rattle.dm_lex.specs.declared.token.TokenKind.{TokenKind}
use Rattle.dm_lex.specs.declared.token.TokenKind.TheVariants as token
use Rattle.dm_lex.specs.Literals.{literal_of}
use Rattle.dm_lex.specs.Tokens.{tokens_of}
use Rattle.dm_text.specs.Values.{value_text}
use Rattle.dm_reread.specs.Parts.{Part, Piece, tokens_from, spelling_of, spelled, word, mark}

-- a token that is a literal whatever its bytes are
abbrev pub is_literal : TokenKind → Bool
is_literal token.Word = false
is_literal token.Quoted = false
is_literal token.Text = true
is_literal token.Hex = true
is_literal token.Number = true
is_literal token.Mark = false

-- The parts are read as the value, in a column of the kind: they are NULL, one literal, or a number behind a minus.
pub data IsRead (k : Kind) (v : Value) (parts : List Part) : Type 0 where
  Null : v ≡ value.Null → parts ≡ word (codes "NULL") ∷ [] → literal_of k false token.Word (codes "NULL") ≡ Some v → IsRead k v parts
  Literal : (kind : TokenKind) (bytes : List ℕ) → is_literal kind ≡ true → parts ≡ Piece kind bytes ∷ [] → literal_of k false kind bytes ≡ Some v → IsRead k v parts
  Minus : (digits : List ℕ) → parts ≡ mark 45 ∷ Piece token.Number digits ∷ [] → literal_of k true token.Number digits ≡ Some v → IsRead k v parts

-- The tokens of a text are those of the parts, with their kinds and bytes.
abbrev pub HasTokens : List ℕ → List Part → Type 0
HasTokens text parts = (tokens_of text ≡ Ok (tokens_from 0 parts)) × (map (spelling_of text) (tokens_from 0 parts) ≡ spelled parts)

-- the text of a value is read as the value
abbrev pub IsReread : Kind → Value → Type 0
IsReread k v = (parts : List Part) × HasTokens (value_text k v) parts × IsRead k v parts
