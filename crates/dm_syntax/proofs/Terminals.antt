-- Each terminal is below the grammar engine's bound.
use Rattle.std.proofs.Common.{◌≡◌, ◌==◌, ℕ, ◌<◌, Bool, true, false, List, [], ◌∷◌, map, All, refl, arith, ltb, cond}
use Rattle.std.proofs.lemmas.Bool.{ltb-true}
use Rattle.std.specs.List.{AllByRecursion, list_any}
use Rattle.dm_syntax.specs.declared.terminal.TheConstants as terminal
use Rattle.std.proofs.lemmas.List.Elements.{All-from_recursion}
use Rattle.dm_lex.specs.declared.token.Token.{Token}
use Rattle.dm_lex.specs.declared.token.TokenKind.{TokenKind}
use Rattle.dm_lex.specs.declared.token.TokenKind.TheVariants as token
use Rattle.dm_schema.specs.Names.{same_name}
use Rattle.dm_lex.specs.Literals.{lower}
use Rattle.dm_syntax.specs.Words.{key_words, terminal_among}
use Rattle.dm_syntax.specs.Pieces.{bytes_of, terminal_of_byte, terminal_of_mark, terminal_of_number, terminal_of}

abbrev AreSmall : List (List ℕ × ℕ) → Type 0
AreSmall [] = Unit {0}
AreSmall (w ∷ ws) = (w.1 < 128) × AreSmall ws

among_small : (words : List (List ℕ × ℕ)) (word : List ℕ) → AreSmall words → terminal_among words word < 128
among_small [] word small = omega arith
among_small (w ∷ ws) word small = by (same_name w.0 word) refl (among_small ws word small.1) where
  by : (b : Bool) → same_name w.0 word ≡ b → terminal_among ws word < 128 → terminal_among (w ∷ ws) word < 128
  by true e rest = rw e small.0
  by false e rest = rw e rest

abbrev are_small : List (List ℕ × ℕ) → Bool
are_small [] = true
are_small (w ∷ ws) = cond (ltb w.1 128) (are_small ws) false

from_test : (words : List (List ℕ × ℕ)) → are_small words ≡ true → AreSmall words
from_test [] e = tt
from_test (w ∷ ws) e = by (ltb w.1 128) refl (from_test ws) e where
  by : (b : Bool) → ltb w.1 128 ≡ b → (are_small ws ≡ true → AreSmall ws) → cond b (are_small ws) false ≡ true → AreSmall (w ∷ ws)
  by true t rest e = (ltb-true _ _ t, rest e)
  by false t rest e = absurd cc

key_words_small : AreSmall key_words
key_words_small = from_test key_words refl

either_small : (t : Bool) (a b : ℕ) → a < 128 → b < 128 → cond t a b < 128
either_small true a b x y = x
either_small false a b x y = y

number_small : (bytes : List ℕ) → terminal_of_number bytes < 128
number_small bytes = either_small (list_any (λ b. b == 46) bytes) terminal.FRACTIONAL terminal.WHOLE (omega arith) (omega arith)

byte_small : (b : ℕ) → terminal_of_byte b < 128
byte_small b =
    either_small (b == 40) terminal.OPENING _ (omega arith)
    (either_small (b == 41) terminal.CLOSING _ (omega arith)
    (either_small (b == 44) terminal.COMMA _ (omega arith)
    (either_small (b == 46) terminal.POINT _ (omega arith)
    (either_small (b == 61) terminal.EQUALS _ (omega arith)
    (either_small (b == 45) terminal.MINUS terminal.OTHER_MARK (omega arith) (omega arith))))))

mark_small : (bytes : List ℕ) → terminal_of_mark bytes < 128
mark_small [] = omega arith
mark_small (b ∷ []) = byte_small b
mark_small (b ∷ c ∷ bs) = omega arith

terminal_small : (text : List ℕ) (t : Token) → terminal_of text t < 128
terminal_small text t = by t.kind where
  by : (k : TokenKind) → terminal_of text (record { kind = k; from = t.from; to = t.to }) < 128
  by token.Word = among_small key_words (map lower (bytes_of text t)) key_words_small
  by token.Quoted = omega arith
  by token.Text = omega arith
  by token.Hex = omega arith
  by token.Number = number_small (bytes_of text t)
  by token.Mark = mark_small (bytes_of text t)

each_small : (text : List ℕ) (tokens : List Token) → AllByRecursion (λ kind. kind < 128) (map (terminal_of text) tokens)
each_small text [] = tt
each_small text (t ∷ ts) = (terminal_small text t, each_small text ts)

pub kinds_small : (text : List ℕ) (tokens : List Token) → All (λ kind. kind < 128) (map (terminal_of text) tokens)
kinds_small text tokens = All-from_recursion (λ kind. kind < 128) (map (terminal_of text) tokens) (each_small text tokens)
