-- The contents that are still to be read, while a dump is read token by token.
use Rattle.std.specs.Prelude.{◌≡◌, ℕ, ◌<◌, Bool, List, [], ◌∷◌, length, Option, Some, None, unwrap_or, if◌then◌else◌}
use Rattle.dm_grammar.specs.Grammar.{Grammar}
use Rattle.dm_grammar.specs.Reading.{read_from}
use Rattle.dm_grammar.specs.Rests.{left}
use Rattle.dm_lex.specs.declared.token.Token.{Token}
use Rattle.dm_lex.specs.declared.token.LexFault.{LexFault}
use Rattle.dm_lex.specs.Tokens.{Lexed, with_token, lexed, lexed_of}
use Rattle.dm_syntax.specs.declared.piece.Piece.{Piece}
use Rattle.dm_dump.specs.declared.fault.Fault.{Fault}
use Rattle.dm_dump.specs.declared.source.Source.{Source}
use Rattle.dm_dump.specs.declared.source.Ahead.{Ahead}
use Rattle.dm_dump.specs.declared.source.Ahead.TheVariants as ahead
use Rattle.dm_dump.specs.declared.unit.Units.{Units}
use Rattle.dm_dump.specs.Terminals.{in_class}
use Rattle.dm_dump.specs.Productions.{dump_grammar}
use Rattle.dm_dump.specs.Reading.{kinds_of, is_end, counts, Contents, contents, fault_at, lexical, fault_in_statement, stopped_with}

-- the contents of tokens, read by what is left of the grammar
abbrev pub contents_from : List ℕ → Option ℕ → Lexed → Grammar → Contents
contents_from text begun all g = contents text begun all (read_from in_class (kinds_of text all.tokens) g).0 (read_from in_class (kinds_of text all.tokens) g).1

abbrev pub all_contents : List ℕ → Contents
all_contents text = contents_from text None (lexed_of text) dump_grammar

-- where the statement begins that goes on behind a token
abbrev pub begun_behind : List ℕ → Option ℕ → Token → Option ℕ
begun_behind text begun t = if is_end text t then None else Some (unwrap_or begun t.from)

abbrev pub with_first : Piece → Contents → Contents
with_first p rest = record { pieces = p ∷ rest.pieces; ending = rest.ending }

-- a piece before others, if it is kept
abbrev pub with_piece : Piece → Contents → Contents
with_piece p rest = if counts p then with_first p rest else rest

abbrev pub ended : Option Fault → Contents
ended fault = record { pieces = []; ending = fault }

-- what reading stops with behind a token that no dump has there
abbrev pub stopped_at : List ℕ → Option ℕ → Token → Lexed → Fault
stopped_at text begun t rest = stopped_with (unwrap_or begun t.from) (fault_in_statement text (t ∷ rest.tokens) rest.fault)

-- the same behind the last token
abbrev pub ended_with : List ℕ → Option ℕ → Bool → Option LexFault → Option Fault
ended_with text begun may_end (Some e) = Some (lexical e)
ended_with text begun may_end None = if may_end then None else Some (fault_at (unwrap_or begun (length text)))

-- Of a source.

abbrev pub contents_left : Source → Contents
contents_left s = contents_from s.text.now s.begun (lexed s.lexer) (left s.reader)

abbrev pub tokens_left : Source → List Token
tokens_left s = (lexed s.lexer).tokens

-- the same with a token before, which the lexer has given
abbrev pub contents_with : Token → Source → Contents
contents_with t s = contents_from s.text.now s.begun (with_token t (lexed s.lexer)) (left s.reader)

-- the token gives a piece, kept or not, or how reading ends
abbrev pub ReadsToken : Token → Ahead → Source → Source → Type 0
ReadsToken t (ahead.Piece p) old new = (contents_with t old ≡ with_piece p (contents_left new)) × (lexed new.lexer ≡ lexed old.lexer)
ReadsToken t (ahead.End fault) old new = contents_with t old ≡ ended fault

-- a step gives a piece of what is left, kept or not, or how reading ends
abbrev pub Reads : Ahead → Source → Source → Type 0
Reads (ahead.Piece p) old new = (contents_left old ≡ with_piece p (contents_left new)) × (length (tokens_left new) < length (tokens_left old))
Reads (ahead.End fault) old new = contents_left old ≡ ended fault

-- what is ahead, and what is left behind it
abbrev pub ahead_of : Ahead → Contents → Contents
ahead_of (ahead.Piece p) rest = with_first p rest
ahead_of (ahead.End fault) rest = ended fault

abbrev pub units_left : Units → Contents
units_left u = ahead_of u.ahead (contents_left u.source)
