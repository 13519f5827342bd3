-- From a text to its pieces: its tokens with their roles, up to the first token that no dump has there; and how reading ends.
use Rattle.std.specs.Prelude.{◌≡◌, ℕ, zero, suc, Bool, not, ◌==◌, List, [], ◌∷◌, map, filter, drop, length, Option, Some, None, unwrap_or, if◌then◌else◌}
use Rattle.std.specs.Option.{option_map}
use Rattle.std.specs.List.{list_any}
use Rattle.dm_grammar.specs.Sentence.{IsReading}
use Rattle.dm_grammar.specs.declared.reader.Fault.{Fault}
use Rattle.dm_grammar.specs.declared.reader.Fault.TheVariants as reading
use Rattle.dm_lex.specs.declared.token.Token.{Token}
use Rattle.dm_lex.specs.declared.token.LexFault.{LexFault}
use Rattle.dm_lex.specs.declared.token.LexFault.TheVariants as lex
use Rattle.dm_lex.specs.Tokens.{Lexed, lexed_of}
use Rattle.dm_syntax.specs.declared.piece.Piece.{Piece}
use Rattle.dm_syntax.specs.Pieces.{pieces_of}
use Rattle.dm_dump.specs.declared.fault.Fault as dump
use Rattle.dm_dump.specs.declared.fault.DumpCause.TheVariants as cause
use Rattle.dm_dump.specs.declared.terminal.TheConstants as terminal
use Rattle.dm_dump.specs.declared.role.TheConstants as role
use Rattle.dm_dump.specs.Terminals.{terminal_of, in_class}
use Rattle.dm_dump.specs.Productions.{dump_grammar}

-- what the grammar sees of tokens
abbrev pub kinds_of : List ℕ → List Token → List ℕ
kinds_of text tokens = map (terminal_of text) tokens

-- the number of the token at which reading stops
abbrev pub number_of : Fault → ℕ
number_of (reading.Syntax n) = n
number_of (reading.Unsupported n) = n

-- a piece that is kept
abbrev pub counts : Piece → Bool
counts p = not (p.role == role.FILLER)

-- Faults.

abbrev pub fault_at : ℕ → dump.Fault
fault_at at = record { at = at; cause = cause.Statement }

-- a token that has no end, or is no hexadecimal literal; the tokens of a text never lack memory
abbrev pub lexical : LexFault → dump.Fault
lexical (lex.Open at) = record { at = at; cause = cause.Lex }
lexical (lex.Hex at) = record { at = at; cause = cause.Lex }
lexical lex.Memory = record { at = 0; cause = cause.Lex }

abbrev pub is_end : List ℕ → Token → Bool
is_end text t = terminal_of text t == terminal.SEMICOLON

-- Where the statement begins, behind the last `;` before token n, in which that token stands. `begun` is where the statement
-- at the front begins, if it does before these tokens.
abbrev pub statement_start : List ℕ → Option ℕ → List Token → ℕ → ℕ
statement_start text begun [] n = unwrap_or begun (length text)
statement_start text begun (t ∷ ts) zero = unwrap_or begun t.from
statement_start text begun (t ∷ ts) (suc n) = statement_start text (if is_end text t then None else Some (unwrap_or begun t.from)) ts n

-- the lexical fault, unless a `;` stands before it
abbrev pub fault_in_statement : List ℕ → List Token → Option LexFault → Option LexFault
fault_in_statement text tokens fault = if list_any (is_end text) tokens then None else fault

-- what reading stops with in a statement: it is none, unless the lexical fault stands in it
abbrev pub stopped_with : ℕ → Option LexFault → dump.Fault
stopped_with at None = fault_at at
stopped_with at (Some e) = lexical e

-- How reading ends: where it doesn't stop, with the lexical fault, if there is one. Where it stops at a token, the
-- statement is none; but where the lexical fault stands in that statement, with the lexical fault.
abbrev pub ending : List ℕ → Option ℕ → Lexed → Option ℕ → Option dump.Fault
ending text begun lexed None = option_map lexical lexed.fault
ending text begun lexed (Some n) =
    Some (stopped_with (statement_start text begun lexed.tokens n) (fault_in_statement text (drop n lexed.tokens) lexed.fault))

-- the pieces of a dump, and how reading ends
pub record Contents : Type 0 where
  pub pieces : List Piece
  pub ending : Option dump.Fault

-- the contents of tokens that have these roles, up to where reading stops
abbrev pub contents : List ℕ → Option ℕ → Lexed → List ℕ → Option Fault → Contents
contents text begun lexed roles first = record {
  pieces = filter counts (pieces_of lexed.tokens (kinds_of text lexed.tokens) roles);
  ending = ending text begun lexed (option_map number_of first);
}

-- The contents of a text: the roles are those of a dump, up to the first token that no dump has there.
abbrev pub HasContents : List ℕ → Contents → Type 0
HasContents text all =
    (roles : List ℕ) × (first : Option Fault) × IsReading in_class dump_grammar (kinds_of text (lexed_of text).tokens) roles first
    × (all ≡ contents text None (lexed_of text) roles first)
