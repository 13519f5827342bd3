-- A text says one thing by its grammar, and each text says something.
use Rattle.std.proofs.Common.{◌≡◌, ℕ, Bool, true, false, List, Option, Result, Ok, Err, refl, sym, ap, ◌∙◌, if◌then◌else◌}
use Rattle.std.specs.Option.{option_map}
use Rattle.dm_grammar.specs.Grammar.{Grammar}
use Rattle.dm_grammar.specs.Determinism.{is_ready}
use Rattle.dm_grammar.specs.Reading.{Outcome, read_from}
use Rattle.dm_grammar.specs.declared.reader.Fault.{Fault}
use Rattle.dm_grammar.proofs.Exact.{ready_reads}
use Rattle.dm_grammar.proofs.Uniqueness.{one_reading}
use Rattle.dm_lex.specs.declared.token.Token.{Token}
use Rattle.dm_lex.specs.declared.token.LexFault.{LexFault}
use Rattle.dm_lex.specs.Tokens.{tokens_of}
use Rattle.dm_syntax.specs.declared.fault.DdlFault.{DdlFault}
use Rattle.dm_syntax.specs.declared.piece.Piece.{Piece}
use Rattle.dm_syntax.specs.declared.parsing.Extent.{Extent}
use Rattle.dm_syntax.specs.declared.parsing.Extent.TheVariants as extent
use Rattle.dm_syntax.specs.declared.terminal.TheConstants as terminal
use Rattle.dm_syntax.specs.Classes.{in_class}
use Rattle.dm_syntax.specs.Productions.{begins_table, create_table_statement, alter_table_statement, other_statement, create_table_start, alter_table_start, other_start}
use Rattle.dm_syntax.specs.Pieces.{pieces_of}
use Rattle.dm_syntax.specs.Parsing.{lexical, grammar_of, kinds_of, placed, SaysLexed, Says}
use Rattle.dm_syntax.proofs.Ready.{create_table_statement_ready, alter_table_statement_ready, other_statement_ready, create_table_start_ready, alter_table_start_ready, other_start_ready}
use Rattle.dm_syntax.proofs.Terminals.{kinds_small}

ready_either : (b : Bool) (g h : Grammar) → is_ready in_class g ≡ true → is_ready in_class h ≡ true → is_ready in_class (if b then g else h) ≡ true
ready_either true g h p q = p
ready_either false g h p q = q

pub grammar_ready : (extent : Extent) (kinds : List ℕ) → is_ready in_class (grammar_of extent kinds) ≡ true
grammar_ready extent.Whole kinds =
    ready_either (begins_table terminal.CREATE kinds) create_table_statement (if begins_table terminal.ALTER kinds then alter_table_statement else other_statement) create_table_statement_ready
    (ready_either (begins_table terminal.ALTER kinds) alter_table_statement other_statement alter_table_statement_ready other_statement_ready)
grammar_ready extent.Head kinds =
    ready_either (begins_table terminal.CREATE kinds) create_table_start (if begins_table terminal.ALTER kinds then alter_table_start else other_start) create_table_start_ready
    (ready_either (begins_table terminal.ALTER kinds) alter_table_start other_start alter_table_start_ready other_start_ready)

judged_alike : {A : Type 0} (judged : List Piece → Option DdlFault → Result A DdlFault) (pieces others : List Piece) (fault other : Option DdlFault) → pieces ≡ others → fault ≡ other → judged pieces fault ≡ judged others other
judged_alike judged pieces others fault other p f = ap (λ (ps : List Piece). judged ps fault) p ∙ ap (judged others) f

-- a text says one thing
pub says_one : {A : Type 0} (extent : Extent) (judged : List Piece → Option DdlFault → Result A DdlFault) (text : List ℕ) (a b : Result A DdlFault) → Says extent judged text a → Says extent judged text b → a ≡ b
says_one {A} extent judged text a b says other = lexed (tokens_of text) says other where
  lexed : (r : Result (List Token) LexFault) → SaysLexed extent judged text r a → SaysLexed extent judged text r b → a ≡ b
  lexed (Err e) x y = x ∙ sym y
  lexed (Ok tokens) x y =
      let kinds = kinds_of text tokens in
      let one = one_reading in_class (grammar_of extent kinds) kinds x.2.0 y.2.0 x.2.1 y.2.1 (kinds_small text tokens) (grammar_ready extent kinds) x.2.2 y.2.2 in
      x.3
      ∙ judged_alike judged x.0 y.0 x.1 y.1 (x.2.3 ∙ ap (pieces_of tokens kinds) one.0 ∙ sym y.2.3) (x.2.4 ∙ ap (λ (f : Option Fault). option_map (placed text tokens) f) one.1 ∙ sym y.2.4)
      ∙ sym y.3

-- What a text says.

abbrev pub said_lexed : {A : Type 0} → Extent → (List Piece → Option DdlFault → Result A DdlFault) → List ℕ → Result (List Token) LexFault → Result A DdlFault
said_lexed extent judged text (Err e) = Err (lexical e)
said_lexed extent judged text (Ok tokens) =
    let outcome : Outcome = read_from in_class (kinds_of text tokens) (grammar_of extent (kinds_of text tokens)) in
    judged (pieces_of tokens (kinds_of text tokens) outcome.0) (option_map (placed text tokens) outcome.1)

pub said : {A : Type 0} → Extent → (List Piece → Option DdlFault → Result A DdlFault) → List ℕ → Result A DdlFault
said extent judged text = said_lexed extent judged text (tokens_of text)

-- each text says something
pub says_said : {A : Type 0} (extent : Extent) (judged : List Piece → Option DdlFault → Result A DdlFault) (text : List ℕ) → Says extent judged text (said extent judged text)
unfolding said
says_said {A} extent judged text = lexed (tokens_of text) where
  lexed : (r : Result (List Token) LexFault) → SaysLexed extent judged text r (said_lexed extent judged text r)
  lexed (Err e) = refl
  lexed (Ok tokens) =
      let kinds = kinds_of text tokens in
      let outcome : Outcome = read_from in_class kinds (grammar_of extent kinds) in
      (pieces_of tokens kinds outcome.0, option_map (placed text tokens) outcome.1, (outcome.0, outcome.1, ready_reads in_class (grammar_of extent kinds) kinds (kinds_small text tokens) (grammar_ready extent kinds), refl, refl), refl)
