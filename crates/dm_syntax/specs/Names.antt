-- Names as tokens write them.
use Rattle.std.specs.Prelude.{ℕ, ◌==◌, List, [], ◌∷◌, map, drop, if◌then◌else◌}
use Rattle.std.specs.Option.{option_map_or}
use Rattle.std.specs.List.{filter}
use Rattle.dm_lex.specs.declared.token.Token.{Token}
use Rattle.dm_lex.specs.declared.token.TokenKind.{TokenKind}
use Rattle.dm_lex.specs.declared.token.TokenKind.TheVariants as token
use Rattle.dm_lex.specs.Literals.{lower}
use Rattle.dm_syntax.specs.declared.piece.Piece.{Piece}
use Rattle.dm_syntax.specs.Pieces.{bytes_of, first_with}

-- what stands behind an opening backquote, up to the closing one: two backquotes stand for one
abbrev pub unquoted : List ℕ → List ℕ
unquoted [] = []
unquoted (b ∷ []) = []
unquoted (b ∷ c ∷ bs) = if b == 96 then b ∷ unquoted bs else b ∷ unquoted (c ∷ bs)

-- the name that a token is
abbrev pub name_of : List ℕ → Token → List ℕ
name_of text t = by t.kind where
  by : TokenKind → List ℕ
  by token.Quoted = unquoted (drop 1 (bytes_of text t))
  by token.Word = bytes_of text t
  by token.Text = bytes_of text t
  by token.Hex = bytes_of text t
  by token.Number = bytes_of text t
  by token.Mark = bytes_of text t

-- names of columns and keys don't differ by case
abbrev pub folded_name : List ℕ → Piece → List ℕ
folded_name text p = map lower (name_of text p.token)

-- the name of a column or key that the first piece of a role is
abbrev pub folded_with : List ℕ → ℕ → List Piece → List ℕ
folded_with text role pieces = option_map_or (folded_name text) (first_with role pieces) []

-- the names that the pieces of a role are
abbrev pub all_folded_with : List ℕ → ℕ → List Piece → List (List ℕ)
all_folded_with text role pieces = map (folded_name text) (filter (λ p. p.role == role) pieces)

abbrev pub name_with : List ℕ → ℕ → List Piece → List ℕ
name_with text role pieces = option_map_or (λ p. name_of text p.token) (first_with role pieces) []
