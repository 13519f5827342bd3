-- What the grammar sees of a token, and the classes of such terminals.
use Rattle.std.specs.Prelude.{ℕ, Bool, not, ◌||◌, ◌==◌, nat_lt, nat_le, List, [], ◌∷◌, codes, if◌then◌else◌}
use Rattle.dm_lex.specs.declared.token.Token.{Token}
use Rattle.dm_lex.specs.declared.token.TokenKind.{TokenKind}
use Rattle.dm_lex.specs.declared.token.TokenKind.TheVariants as token
use Rattle.dm_lex.specs.Literals.{is_word}
use Rattle.dm_syntax.specs.Pieces.{bytes_of}
use Rattle.dm_dump.specs.declared.terminal.TheConstants as terminal
use Rattle.dm_dump.specs.declared.class.TheConstants as class

-- the words that begin statements that are passed over
abbrev pub is_passed : List ℕ → Bool
is_passed bytes = is_word (codes "set") bytes || is_word (codes "drop") bytes || is_word (codes "lock") bytes || is_word (codes "unlock") bytes

abbrev pub is_truth : List ℕ → Bool
is_truth bytes = is_word (codes "null") bytes || is_word (codes "true") bytes || is_word (codes "false") bytes

abbrev pub is_introducer : List ℕ → Bool
is_introducer bytes =
    is_word (codes "_binary") bytes || is_word (codes "_utf8") bytes || is_word (codes "_utf8mb3") bytes || is_word (codes "_utf8mb4") bytes

-- words don't differ by case
abbrev pub terminal_of_word : List ℕ → ℕ
terminal_of_word bytes =
    if is_truth bytes then terminal.TRUTH
    else if is_introducer bytes then terminal.INTRODUCER
    else if is_word (codes "insert") bytes then terminal.INSERT
    else if is_word (codes "into") bytes then terminal.INTO
    else if is_word (codes "values") bytes then terminal.VALUES
    else if is_word (codes "create") bytes then terminal.CREATE
    else if is_word (codes "table") bytes then terminal.TABLE
    else if is_passed bytes then terminal.PASSED
    else terminal.OTHER_WORD

abbrev pub terminal_of_byte : ℕ → ℕ
terminal_of_byte b =
    if b == 40 then terminal.OPENING
    else if b == 41 then terminal.CLOSING
    else if b == 44 then terminal.COMMA
    else if b == 59 then terminal.SEMICOLON
    else if b == 46 then terminal.POINT
    else if b == 45 then terminal.MINUS
    else terminal.OTHER_MARK

-- a mark has one byte
abbrev pub terminal_of_mark : List ℕ → ℕ
terminal_of_mark [] = terminal.OTHER_MARK
terminal_of_mark (b ∷ bs) = terminal_of_byte b

-- what the grammar sees of a token
abbrev pub terminal_of : List ℕ → Token → ℕ
terminal_of text t = by t.kind where
  by : TokenKind → ℕ
  by token.Word = terminal_of_word (bytes_of text t)
  by token.Quoted = terminal.QUOTED
  by token.Text = terminal.STRING
  by token.Hex = terminal.HEXADECIMAL
  by token.Number = terminal.NUMBER
  by token.Mark = terminal_of_mark (bytes_of text t)

-- quoted names and words, which have the kinds from QUOTED on
abbrev pub is_name : ℕ → Bool
is_name kind = nat_le terminal.QUOTED kind

abbrev pub in_class : ℕ → ℕ → Bool
in_class number kind =
    if nat_lt number 128 then kind == number
    else if number == class.NAME then is_name kind
    else not (kind == terminal.SEMICOLON)
