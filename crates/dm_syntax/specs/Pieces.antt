-- The tokens of a statement with their terminals and roles, and the definitions and changes into which roles split them.
use Rattle.std.specs.Prelude.{ℕ, ◌-◌, Bool, ◌==◌, List, [], ◌∷◌, map, take, drop, Option, if◌then◌else◌}
use Rattle.std.specs.List.{list_any, before_first, find, zip}
use Rattle.dm_lex.specs.declared.token.Token.{Token}
use Rattle.dm_lex.specs.declared.token.TokenKind.{TokenKind}
use Rattle.dm_lex.specs.declared.token.TokenKind.TheVariants as token
use Rattle.dm_syntax.specs.declared.piece.Piece.{Piece}
use Rattle.dm_syntax.specs.declared.terminal.TheConstants as terminal
use Rattle.dm_syntax.specs.Words.{terminal_of_word}

-- the bytes of a token in its text
abbrev pub bytes_of : List ℕ → Token → List ℕ
bytes_of text t = take (t.to - t.from) (drop t.from text)

abbrev pub terminal_of_byte : ℕ → ℕ
terminal_of_byte b =
    if b == 40 then terminal.OPENING
    else if b == 41 then terminal.CLOSING
    else if b == 44 then terminal.COMMA
    else if b == 46 then terminal.POINT
    else if b == 61 then terminal.EQUALS
    else if b == 45 then terminal.MINUS
    else terminal.OTHER_MARK

abbrev pub terminal_of_mark : List ℕ → ℕ
terminal_of_mark [] = terminal.OTHER_MARK
terminal_of_mark (b ∷ []) = terminal_of_byte b
terminal_of_mark (b ∷ c ∷ bs) = terminal.OTHER_MARK

-- a number with a point, or without
abbrev pub terminal_of_number : List ℕ → ℕ
terminal_of_number bytes = if list_any (λ b. b == 46) bytes then terminal.FRACTIONAL else terminal.WHOLE

-- what the grammar sees of a token
abbrev pub terminal_of : List ℕ → Token → ℕ
terminal_of text t = by t.kind where
  by : TokenKind → ℕ
  by token.Word = terminal_of_word (bytes_of text t)
  by token.Quoted = terminal.QUOTED
  by token.Text = terminal.STRING
  by token.Hex = terminal.HEXADECIMAL
  by token.Number = terminal_of_number (bytes_of text t)
  by token.Mark = terminal_of_mark (bytes_of text t)

-- each token with its terminal and its role
abbrev pub pieces_of : List Token → List ℕ → List ℕ → List Piece
pieces_of tokens kinds roles = map (λ p. record { token = p.0; kind = p.1.0; role = p.1.1 }) (zip tokens (zip kinds roles))

-- the first piece of a role
abbrev pub first_with : ℕ → List Piece → Option Piece
first_with role pieces = find (λ p. p.role == role) pieces

abbrev pub has_role : ℕ → List Piece → Bool
has_role role pieces = list_any (λ p. p.role == role) pieces

-- a piece of one of these roles
abbrev pub begins : List ℕ → Piece → Bool
begins roles p = list_any (λ r. r == p.role) roles

-- The parts of a list: each begins at an element that passes, and goes up to the next that does. What stands before
-- the first is in none.
abbrev pub parts : {A : Type 0} → (A → Bool) → List A → List (List A)
parts test [] = []
parts test (x ∷ xs) = if test x then (x ∷ before_first test xs) ∷ parts test xs else parts test xs
