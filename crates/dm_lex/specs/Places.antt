-- Where lexemes and tokens stand in a text.
use Rattle.std.specs.Prelude.{◌≡◌, ℕ, ◌+◌, ◌<◌, ◌≤◌, List, length, drop, Option, Some, None, Result, Ok, Err, ⊤}
use Rattle.dm_lex.specs.declared.token.Token.{Token}
use Rattle.dm_lex.specs.declared.token.LexFault.{LexFault}
use Rattle.dm_lex.specs.declared.lexeme.Lexeme.{Lexeme}
use Rattle.dm_lex.specs.declared.lexeme.Lexeme.TheVariants.{Gap, Piece, Open, NotHex}
use Rattle.dm_lex.specs.Tokens.{Lexed, lexed_from, with_token, no_more, stopped}

-- a lexeme at a place has a byte at least, and ends at or before the text's end
abbrev pub EndsWithin : Lexeme → ℕ → ℕ → Type 0
EndsWithin (Gap n) at end = (1 ≤ n) × (at + n ≤ end)
EndsWithin (Piece kind n) at end = (1 ≤ n) × (at + n ≤ end)
EndsWithin Open at end = ⊤
EndsWithin NotHex at end = ⊤

-- the tokens of a text from a place on
abbrev pub lexed_at : List ℕ → ℕ → Lexed
lexed_at text at = lexed_from at 0 (drop at text)

-- the first token from a place on, within the text
abbrev pub Finds : Result (Option Token) LexFault → List ℕ → ℕ → Type 0
Finds (Ok (Some token)) text at = (lexed_at text at ≡ with_token token (lexed_at text token.to)) × (at ≤ token.from) × (token.from < token.to) × (token.to ≤ length text)
Finds (Ok None) text at = lexed_at text at ≡ no_more
Finds (Err e) text at = lexed_at text at ≡ stopped e
