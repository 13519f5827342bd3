-- The literals of a row, read from its bracket on, and their values.
use Rattle.std.specs.Prelude.{ℕ, ◌+◌, ◌^◌, Bool, true, false, ◌==◌, nat_lt, ◌&&◌, List, [], ◌∷◌, length, slice_get, Option, Some, None, option_and_then, is_some, if◌then◌else◌}
use Rattle.std.specs.Option.{option_map, option_map_or}
use Rattle.dm_value.specs.declared.value.Value.{Value}
use Rattle.dm_schema.specs.declared.column.Column.{Column}
use Rattle.dm_schema.specs.Fits.{fits}
use Rattle.dm_lex.specs.declared.token.Token.{Token}
use Rattle.dm_lex.specs.Tokens.{lexed}
use Rattle.dm_lex.specs.Literals.{literal_of}
use Rattle.dm_syntax.specs.Pieces.{bytes_of}
use Rattle.dm_dump.specs.declared.literal.Literal.{Literal}
use Rattle.dm_dump.specs.declared.literal.Waiting.{Waiting}
use Rattle.dm_dump.specs.declared.literal.Waiting.TheVariants as waiting
use Rattle.dm_dump.specs.declared.literal.Step.{Step}
use Rattle.dm_dump.specs.declared.literal.Step.TheVariants as step
use Rattle.dm_dump.specs.declared.terminal.TheConstants as terminal
use Rattle.dm_dump.specs.Terminals.{terminal_of}

-- a token that is a literal by itself
abbrev pub is_literal : ℕ → Bool
is_literal kind =
    if kind == terminal.NUMBER then true
    else if kind == terminal.STRING then true
    else if kind == terminal.HEXADECIMAL then true
    else kind == terminal.TRUTH

-- a literal that begins at this token, or what is to come behind it
abbrev pub begun_with : Token → ℕ → Step
begun_with t kind =
    if is_literal kind then step.Found (record { first = t; minus = false; value = t })
    else if kind == terminal.MINUS then step.On (waiting.Number t)
    else if kind == terminal.INTRODUCER then step.On (waiting.Text t)
    else step.Stop

-- what a token is, by what may stand there
abbrev pub stepped : Waiting → Token → ℕ → Step
stepped waiting.Literal t kind = begun_with t kind
stepped (waiting.Number first) t kind = if kind == terminal.NUMBER then step.Found (record { first = first; minus = true; value = t }) else step.Stop
stepped (waiting.Text first) t kind = if kind == terminal.STRING then step.Found (record { first = first; minus = false; value = t }) else step.Stop
stepped waiting.Comma t kind = if kind == terminal.COMMA then step.On waiting.Literal else step.Stop

abbrev pub literals_by : Step → (Waiting → List Literal) → List Literal
literals_by step.Stop behind = []
literals_by (step.On next) behind = behind next
literals_by (step.Found literal) behind = literal ∷ behind waiting.Comma

-- the literals at the front with commas between, up to the first token that goes on no further
abbrev pub literals_from : List ℕ → Waiting → List Token → List Literal
literals_from text waiting [] = []
literals_from text waiting (t ∷ ts) = literals_by (stepped waiting t (terminal_of text t)) (λ next. literals_from text next ts)

-- A row's bracket stands at the place. Places have 32 bits, so a longer text has no rows.
abbrev pub has_bracket : List ℕ → ℕ → Bool
has_bracket text at = nat_lt (length text) (2 ^ 32) && option_map_or (λ b. b == 40) (slice_get text at) false

-- the literals of the row whose bracket stands at the place
abbrev pub literals_at : List ℕ → ℕ → List Literal
literals_at text at = if has_bracket text at then literals_from text waiting.Literal (lexed (record { text = text; at = at + 1 })).tokens else []

-- a value that the column can have
abbrev pub if_fits : Column → Option Value → Option Value
if_fits column o = option_and_then (λ v. if fits v column then Some v else None) o

abbrev pub value_in : List ℕ → Column → Literal → Option Value
value_in text column literal = if_fits column (literal_of column.kind literal.minus literal.value.kind (bytes_of text literal.value))

-- the values of literals, one for each column
abbrev pub values_of : List ℕ → List Column → List Literal → Option (List Value)
values_of text [] [] = Some []
values_of text [] (l ∷ ls) = None
values_of text (c ∷ cs) [] = None
values_of text (c ∷ cs) (l ∷ ls) = option_and_then (λ v. option_map (λ vs. v ∷ vs) (values_of text cs ls)) (value_in text c l)

-- where the first literal begins that has a column, and no value of it
abbrev pub first_unfit : List ℕ → List Column → List Literal → Option ℕ
first_unfit text [] ls = None
first_unfit text (c ∷ cs) [] = None
first_unfit text (c ∷ cs) (l ∷ ls) = if is_some (value_in text c l) then first_unfit text cs ls else Some l.first.from
