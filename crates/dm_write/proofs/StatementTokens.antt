-- What the grammar of statements sees of written tokens.
use Rattle.std.proofs.Common.{◌≡◌, ◌==◌, ℕ, Bool, true, false, ◌||◌, List, [], ◌∷◌, refl, sym, ap, ◌∙◌}
use Rattle.std.specs.List.{list_any, list_all}
use Rattle.std.specs.Fmt.{decimal}
use Rattle.std.proofs.lemmas.Bool.{and_parts, eqb-true}
use Rattle.dm_lex.specs.declared.token.Token.{Token}
use Rattle.dm_lex.specs.declared.token.TokenKind.{TokenKind}
use Rattle.dm_lex.specs.declared.token.TokenKind.TheVariants as token
use Rattle.dm_lex.specs.Lexemes.{is_digit}
use Rattle.dm_syntax.specs.declared.terminal.TheConstants as terminal
use Rattle.dm_syntax.specs.Words.{terminal_of_word}
use Rattle.dm_syntax.specs.Pieces.{terminal_of_number, terminal_of_mark, terminal_of}
use Rattle.dm_reread.specs.Parts.{Spelling, spelling_of}
use Rattle.dm_reread.proofs.Laws.{decimal_is_digits}

abbrev pub terminal_seen : Spelling → ℕ
terminal_seen s = by s.kind where
  by : TokenKind → ℕ
  by token.Word = terminal_of_word s.bytes
  by token.Quoted = terminal.QUOTED
  by token.Text = terminal.STRING
  by token.Hex = terminal.HEXADECIMAL
  by token.Number = terminal_of_number s.bytes
  by token.Mark = terminal_of_mark s.bytes

pub seen_as : (text : List ℕ) (t : Token) → terminal_of text t ≡ terminal_seen (spelling_of text t)
seen_as text t = by t.kind where
  by : (k : TokenKind) → terminal_of text (record { kind = k; from = t.from; to = t.to }) ≡ terminal_seen (spelling_of text (record { kind = k; from = t.from; to = t.to }))
  by token.Word = refl
  by token.Quoted = refl
  by token.Text = refl
  by token.Hex = refl
  by token.Number = refl
  by token.Mark = refl

-- digits have no point
no_point : (bytes : List ℕ) → list_all is_digit bytes ≡ true → list_any (λ b. b == 46) bytes ≡ false
no_point [] h = refl
no_point (b ∷ bs) h = let parts = and_parts (is_digit b) (list_all is_digit bs) h in by (b == 46) refl parts.0 (no_point bs parts.1) where
  by : (t : Bool) → (b == 46) ≡ t → is_digit b ≡ true → list_any (λ b. b == 46) bs ≡ false → (t || list_any (λ b. b == 46) bs) ≡ false
  by true e digit rest = absurd (let never : is_digit 46 ≡ true = ap is_digit (sym (eqb-true b 46 e)) ∙ digit in cc)
  by false e digit rest = rest

pub whole_seen : (n : ℕ) → terminal_seen (record { kind = token.Number; bytes = decimal n }) ≡ terminal.WHOLE
whole_seen n = rw (no_point (decimal n) (decimal_is_digits n)) refl
