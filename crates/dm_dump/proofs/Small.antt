-- Each terminal is below the grammar engine's bound.
use Rattle.std.proofs.Common.{◌==◌, ℕ, ◌<◌, Bool, true, false, List, [], ◌∷◌, map, All, arith, cond, codes}
use Rattle.std.specs.List.{AllByRecursion}
use Rattle.std.proofs.lemmas.List.Elements.{All-from_recursion}
use Rattle.dm_lex.specs.declared.token.Token.{Token}
use Rattle.dm_lex.specs.declared.token.TokenKind.{TokenKind}
use Rattle.dm_lex.specs.declared.token.TokenKind.TheVariants as token
use Rattle.dm_lex.specs.Literals.{is_word}
use Rattle.dm_syntax.specs.Pieces.{bytes_of}
use Rattle.dm_dump.specs.declared.terminal.TheConstants as terminal
use Rattle.dm_dump.specs.Terminals.{is_passed, is_truth, is_introducer, terminal_of_word, terminal_of_byte, terminal_of_mark, terminal_of}

either : (t : Bool) (a b : ℕ) → a < 128 → b < 128 → cond t a b < 128
either true a b x y = x
either false a b x y = y

word_small : (bytes : List ℕ) → terminal_of_word bytes < 128
word_small bytes =
    either (is_truth bytes) terminal.TRUTH _ (omega arith)
    (either (is_introducer bytes) terminal.INTRODUCER _ (omega arith)
    (either (is_word (codes "insert") bytes) terminal.INSERT _ (omega arith)
    (either (is_word (codes "into") bytes) terminal.INTO _ (omega arith)
    (either (is_word (codes "values") bytes) terminal.VALUES _ (omega arith)
    (either (is_word (codes "create") bytes) terminal.CREATE _ (omega arith)
    (either (is_word (codes "table") bytes) terminal.TABLE _ (omega arith)
    (either (is_passed bytes) terminal.PASSED terminal.OTHER_WORD (omega arith) (omega arith))))))))

byte_small : (b : ℕ) → terminal_of_byte b < 128
byte_small b =
    either (b == 40) terminal.OPENING _ (omega arith)
    (either (b == 41) terminal.CLOSING _ (omega arith)
    (either (b == 44) terminal.COMMA _ (omega arith)
    (either (b == 59) terminal.SEMICOLON _ (omega arith)
    (either (b == 46) terminal.POINT _ (omega arith)
    (either (b == 45) terminal.MINUS terminal.OTHER_MARK (omega arith) (omega arith))))))

mark_small : (bytes : List ℕ) → terminal_of_mark bytes < 128
mark_small [] = omega arith
mark_small (b ∷ bs) = byte_small b

terminal_small : (text : List ℕ) (t : Token) → terminal_of text t < 128
terminal_small text t = by t.kind where
  by : (k : TokenKind) → terminal_of text (record { kind = k; from = t.from; to = t.to }) < 128
  by token.Word = word_small (bytes_of text t)
  by token.Quoted = omega arith
  by token.Text = omega arith
  by token.Hex = omega arith
  by token.Number = omega arith
  by token.Mark = mark_small (bytes_of text t)

each_small : (text : List ℕ) (tokens : List Token) → AllByRecursion (λ kind. kind < 128) (map (terminal_of text) tokens)
each_small text [] = tt
each_small text (t ∷ ts) = (terminal_small text t, each_small text ts)

pub kinds_small : (text : List ℕ) (tokens : List Token) → All (λ kind. kind < 128) (map (terminal_of text) tokens)
kinds_small text tokens = All-from_recursion (λ kind. kind < 128) (map (terminal_of text) tokens) (each_small text tokens)
