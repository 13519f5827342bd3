-- What the text of a default says, as SET DEFAULT keeps it: a literal, with a minus before it or without.
use Rattle.std.specs.Prelude.{ℕ, true, false, ◌==◌, List, [], ◌∷◌, Option, None, Result, Ok, Err, if◌then◌else◌}
use Rattle.dm_value.specs.declared.value.Value.{Value}
use Rattle.dm_schema.specs.declared.column.Kind.{Kind}
use Rattle.dm_lex.specs.declared.token.Token.{Token}
use Rattle.dm_lex.specs.declared.token.LexFault.{LexFault}
use Rattle.dm_lex.specs.Tokens.{tokens_of}
use Rattle.dm_lex.specs.Literals.{literal_of}
use Rattle.dm_syntax.specs.declared.terminal.TheConstants as terminal
use Rattle.dm_syntax.specs.Pieces.{bytes_of, terminal_of}

abbrev pub value_of_tokens : List ℕ → Kind → List Token → Option Value
value_of_tokens text k [] = None
value_of_tokens text k (t ∷ []) = literal_of k false t.kind (bytes_of text t)
value_of_tokens text k (m ∷ t ∷ []) = if terminal_of text m == terminal.MINUS then literal_of k true t.kind (bytes_of text t) else None
value_of_tokens text k (m ∷ t ∷ u ∷ ts) = None

abbrev pub value_of_lexed : List ℕ → Kind → Result (List Token) LexFault → Option Value
value_of_lexed text k (Ok tokens) = value_of_tokens text k tokens
value_of_lexed text k (Err e) = None

-- the value of a default's text for a kind
abbrev pub default_value_of : Kind → List ℕ → Option Value
default_value_of k text = value_of_lexed text k (tokens_of text)
