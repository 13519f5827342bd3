-- The tokens of a text: what stands at its front, then what stands behind that, up to the end or the first fault.
use Rattle.std.specs.Prelude.{◌≡◌, ℕ, zero, suc, ◌+◌, ◌-◌, ◌<◌, ◌≤◌, List, [], ◌∷◌, length, drop, Option, Some, None, Result, Ok, Err, ⊤}
use Rattle.dm_lex.specs.declared.token.Token.{Token}
use Rattle.dm_lex.specs.declared.token.LexFault.{LexFault}
use Rattle.dm_lex.specs.declared.token.LexFault.TheVariants as fault
use Rattle.dm_lex.specs.declared.lexeme.Lexeme.{Lexeme}
use Rattle.dm_lex.specs.declared.lexeme.Lexeme.TheVariants.{Gap, Piece, Open, NotHex}
use Rattle.dm_lex.specs.Lexemes.{lexeme_of}
use Rattle.std.specs.Prelude.{Bool, true, false}

abbrev pub is_memory : LexFault → Bool
is_memory fault.Memory = true
is_memory (fault.Open at) = false
is_memory (fault.Hex at) = false

-- the tokens up to the first fault, and the fault
pub record Lexed : Type 0 where
  pub tokens : List Token
  pub fault : Option LexFault

abbrev pub with_token : Token → Lexed → Lexed
with_token t rest = record { tokens = t ∷ rest.tokens; fault = rest.fault }

abbrev pub no_more : Lexed
no_more = record { tokens = []; fault = None }

abbrev pub stopped : LexFault → Lexed
stopped e = record { tokens = []; fault = Some e }

-- what a lexeme at a place gives, where the rest gives what it does behind so many bytes
abbrev pub told : Lexeme → ℕ → (ℕ → Lexed) → Lexed
told (Gap length) at behind = behind length
told (Piece kind length) at behind = with_token (record { kind = kind; from = at; to = at + length }) (behind length)
told Open at behind = stopped (fault.Open at)
told NotHex at behind = stopped (fault.Hex at)

-- the tokens from a place on, of whose front so many bytes belong to the lexeme before
unfoldable pub lexed_from : ℕ → ℕ → List ℕ → Lexed
lexed_from at inside [] = no_more
lexed_from at (suc inside) (b ∷ bs) = lexed_from (at + 1) inside bs
lexed_from at zero (b ∷ bs) = told (lexeme_of (b ∷ bs)) at (λ length. lexed_from (at + 1) (length - 1) bs)

abbrev pub lexed_of : List ℕ → Lexed
lexed_of text = lexed_from 0 0 text

-- all tokens, where there is no fault
abbrev pub all_tokens : Lexed → Result (List Token) LexFault
all_tokens lexed = by lexed.fault where
  by : Option LexFault → Result (List Token) LexFault
  by None = Ok lexed.tokens
  by (Some e) = Err e

unfoldable pub tokens_of : List ℕ → Result (List Token) LexFault
tokens_of text = all_tokens (lexed_of text)

-- Token by token.

-- a text, and the place from which on it is still to be split
pub record LexerState : Type 0 where
  pub text : List ℕ
  pub at : ℕ

-- what is left of the text
abbrev pub lexed : LexerState → Lexed
lexed state = lexed_from state.at 0 (drop state.at state.text)

-- A step gives the first token of what is left, and leaves what stands behind it. At the end and at a fault it moves nowhere.
abbrev pub Gives : Result (Option Token) LexFault → LexerState → LexerState → Type 0
Gives (Ok (Some token)) old new = lexed old ≡ with_token token (lexed new)
Gives (Ok None) old new = (lexed old ≡ no_more) × (new ≡ old)
Gives (Err e) old new = (lexed old ≡ stopped e) × (new ≡ old)

-- A token lies within the text, at or behind the place where the lexer stood; behind the token it stands at the token's end.
abbrev pub Moves : Result (Option Token) LexFault → LexerState → LexerState → Type 0
Moves (Ok (Some token)) old new = (old.at ≤ token.from) × (token.from < token.to) × (token.to ≤ length old.text) × (new ≡ record { text = old.text; at = token.to })
Moves (Ok None) old new = new ≡ old
Moves (Err e) old new = new ≡ old
