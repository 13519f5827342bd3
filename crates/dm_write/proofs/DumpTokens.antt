-- What the grammar of dumps sees of written tokens.
use Rattle.std.proofs.Common.{◌≡◌, ℕ, true, List, ◌∷◌, refl, ap, ◌∙◌}
use Rattle.dm_lex.specs.declared.token.Token.{Token}
use Rattle.dm_lex.specs.declared.token.TokenKind.{TokenKind}
use Rattle.dm_lex.specs.declared.token.TokenKind.TheVariants as token
use Rattle.dm_dump.specs.declared.terminal.TheConstants as terminal
use Rattle.dm_dump.specs.Terminals.{terminal_of_word, terminal_of_mark, terminal_of}
use Rattle.dm_dump.specs.Literals.{is_literal}
use Rattle.dm_reread.specs.Parts.{Part, Piece, Spelling, spelling_of}
use Rattle.dm_reread.specs.Read as read
use Rattle.dm_write.proofs.Placed.{Stands, token_at, spelling_at}

abbrev pub terminal_seen : Spelling → ℕ
terminal_seen s = by s.kind where
  by : TokenKind → ℕ
  by token.Word = terminal_of_word s.bytes
  by token.Quoted = terminal.QUOTED
  by token.Text = terminal.STRING
  by token.Hex = terminal.HEXADECIMAL
  by token.Number = terminal.NUMBER
  by token.Mark = terminal_of_mark s.bytes

pub seen_as : (text : List ℕ) (t : Token) → terminal_of text t ≡ terminal_seen (spelling_of text t)
seen_as text t = by t.kind where
  by : (k : TokenKind) → terminal_of text (record { kind = k; from = t.from; to = t.to }) ≡ terminal_seen (spelling_of text (record { kind = k; from = t.from; to = t.to }))
  by token.Word = refl
  by token.Quoted = refl
  by token.Text = refl
  by token.Hex = refl
  by token.Number = refl
  by token.Mark = refl

pub seen_at : (text : List ℕ) (at : ℕ) (kind : TokenKind) (bytes : List ℕ) (parts : List Part) → Stands text at (Piece kind bytes ∷ parts)
    → terminal_of text (token_at at kind bytes) ≡ terminal_seen (record { kind = kind; bytes = bytes })
seen_at text at kind bytes parts s = seen_as text (token_at at kind bytes) ∙ ap terminal_seen (spelling_at text at kind bytes parts s)

-- a literal is one of the grammar's
pub literal_seen : (kind : TokenKind) (bytes : List ℕ) → read.is_literal kind ≡ true → is_literal (terminal_seen (record { kind = kind; bytes = bytes })) ≡ true
literal_seen token.Word bytes h = absurd cc
literal_seen token.Quoted bytes h = absurd cc
literal_seen token.Text bytes h = refl
literal_seen token.Hex bytes h = refl
literal_seen token.Number bytes h = refl
literal_seen token.Mark bytes h = absurd cc
