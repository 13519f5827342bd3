-- From a text to its pieces: its tokens, and their roles by the grammar, up to the first fault.
use Rattle.std.specs.Prelude.{◌≡◌, ⊤, ℕ, List, map, length, slice_get, Bool, true, false, Option, Result, Ok, Err}
use Rattle.std.specs.Option.{option_map, option_map_or}
use Rattle.dm_grammar.specs.Grammar.{Grammar}
use Rattle.dm_grammar.specs.Sentence.{IsSentence, IsReading}
use Rattle.dm_grammar.specs.declared.reader.Fault.{Fault}
use Rattle.dm_grammar.specs.declared.reader.Fault.TheVariants as reading
use Rattle.dm_lex.specs.declared.token.Token.{Token}
use Rattle.dm_lex.specs.declared.token.LexFault.{LexFault}
use Rattle.dm_lex.specs.declared.token.LexFault.TheVariants as lex
use Rattle.dm_lex.specs.Tokens.{tokens_of}
use Rattle.dm_schema.specs.declared.fault.SchemaFault.{SchemaFault}
use Rattle.dm_syntax.specs.declared.fault.DdlFault.{DdlFault}
use Rattle.dm_syntax.specs.declared.fault.DdlFault.TheVariants as fault
use Rattle.dm_syntax.specs.declared.piece.Piece.{Piece}
use Rattle.dm_syntax.specs.declared.parsing.Extent.{Extent}
use Rattle.dm_syntax.specs.declared.parsing.Extent.TheVariants as extent
use Rattle.dm_syntax.specs.declared.parsing.Parsed.{Parsed}
use Rattle.dm_syntax.specs.Classes.{in_class}
use Rattle.dm_syntax.specs.Productions.{statement_grammar, head_grammar}
use Rattle.dm_syntax.specs.Pieces.{terminal_of, pieces_of}

-- the fault of a text that has no tokens
abbrev pub lexical : LexFault → DdlFault
lexical (lex.Open at) = fault.Lex at
lexical (lex.Hex at) = fault.Lex at
lexical lex.Memory = fault.Memory

abbrev pub is_memory : DdlFault → Bool
is_memory fault.Memory = true
is_memory (fault.Lex at) = false
is_memory (fault.Syntax at) = false
is_memory (fault.Unsupported at) = false
is_memory (fault.Made e) = false

-- the schema, if it can be made
abbrev pub made : {A : Type 0} → Result A SchemaFault → Result A DdlFault
made (Ok schema) = Ok schema
made (Err e) = Err (fault.Made e)

-- the grammar of a statement, or of its head alone
abbrev pub grammar_of : Extent → List ℕ → Grammar
grammar_of extent.Whole kinds = statement_grammar kinds
grammar_of extent.Head kinds = head_grammar kinds

-- what the grammar sees of tokens
abbrev pub kinds_of : List ℕ → List Token → List ℕ
kinds_of text tokens = map (terminal_of text) tokens

-- where the token of a number begins; behind the last, the text's end
abbrev pub place_of : List ℕ → List Token → ℕ → ℕ
place_of text tokens n = option_map_or (λ t. t.from) (slice_get tokens n) (length text)

-- the grammar's fault, by its place in the text
abbrev pub placed : List ℕ → List Token → Fault → DdlFault
placed text tokens (reading.Syntax n) = fault.Syntax (place_of text tokens n)
placed text tokens (reading.Unsupported n) = fault.Unsupported (place_of text tokens n)

-- the tokens are a sentence of the grammar, with these roles
abbrev pub IsStatement : Extent → List ℕ → List Token → List ℕ → Type 0
IsStatement extent text tokens roles = IsSentence in_class (grammar_of extent (kinds_of text tokens)) (kinds_of text tokens) roles

-- The tokens have these pieces up to the first fault: the token that no statement has there, or that shows what isn't
-- supported.
abbrev pub HasPieces : Extent → List ℕ → List Token → List Piece → Option DdlFault → Type 0
HasPieces extent text tokens pieces fault =
    (roles : List ℕ) × (first : Option Fault) × IsReading in_class (grammar_of extent (kinds_of text tokens)) (kinds_of text tokens) roles first
    × (pieces ≡ pieces_of tokens (kinds_of text tokens) roles) × (fault ≡ option_map (placed text tokens) first)

-- what pieces and the fault behind them say of a text, or the fault of a text without tokens
abbrev pub SaysLexed : {A : Type 0} → Extent → (List Piece → Option DdlFault → Result A DdlFault) → List ℕ → Result (List Token) LexFault → Result A DdlFault → Type 0
SaysLexed extent judged text (Err e) answer = answer ≡ Err (lexical e)
SaysLexed extent judged text (Ok tokens) answer =
    (pieces : List Piece) × (fault : Option DdlFault) × HasPieces extent text tokens pieces fault × (answer ≡ judged pieces fault)

abbrev pub Says : {A : Type 0} → Extent → (List Piece → Option DdlFault → Result A DdlFault) → List ℕ → Result A DdlFault → Type 0
Says extent judged text answer = SaysLexed extent judged text (tokens_of text) answer

-- What a call answered holds, or there was no memory.
abbrev pub OrMemory : {A : Type 0} → (Result A DdlFault → Type 0) → Result A DdlFault → Type 0
OrMemory Holds (Ok value) = Holds (Ok value)
OrMemory Holds (Err e) = by (is_memory e) where
  by : Bool → Type 0
  by true = ⊤
  by false = Holds (Err e)

-- what parsing answers
abbrev pub judged_as : List Piece → Option DdlFault → Result (List Piece × Option DdlFault) DdlFault
judged_as pieces fault = Ok (pieces, fault)

abbrev pub parsing_of : Result Parsed DdlFault → Result (List Piece × Option DdlFault) DdlFault
parsing_of (Ok p) = Ok (p.pieces.items, p.fault)
parsing_of (Err e) = Err e
