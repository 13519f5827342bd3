-- Whatever a written dump is read as is the table, its schema and its rows.
use Rattle.std.proofs.Common.{◌≡◌, ℕ, true, List, [], ◌∷◌, ◌++◌, map, None, refl, sym, ap, ◌∙◌, subst, append-nil}
use Rattle.std.proofs.lemmas.List.{map-append}
use Rattle.dm_value.specs.declared.value.Value.{Value}
use Rattle.dm_schema.specs.declared.column.Column.{Column}
use Rattle.dm_schema.specs.Layout.{Layout}
use Rattle.dm_lex.specs.declared.token.Token.{Token}
use Rattle.dm_lex.specs.Tokens.{lexed_of}
use Rattle.dm_grammar.specs.Grammar.{Letter}
use Rattle.dm_grammar.specs.Sentence as letters
use Rattle.dm_grammar.specs.Sentence.{roles_of}
use Rattle.dm_lex.specs.declared.token.TokenKind.TheVariants as token
use Rattle.dm_dump.specs.declared.terminal.TheConstants as terminal
use Rattle.dm_dump.specs.Terminals.{in_class}
use Rattle.dm_dump.specs.Productions.{dump_grammar}
use Rattle.dm_dump.specs.Reading.{kinds_of, Contents, contents, HasContents}
use Rattle.dm_dump.proofs.Small.{kinds_small}
use Rattle.dm_dump.proofs.Ready.{dump_ready}
use Rattle.dm_grammar.proofs.Uniqueness.{one_reading}
use Rattle.dm_reread.specs.Parts.{Part, Blank, Spelling, spelled, text_of, tokens_from, lexed_as, spelling_of, is_spelled, mark, tuple_parts}
use Rattle.dm_reread.proofs.Laws.{spelled_of_both, parts_are_lexed, tokens_at_are_spelled}
use Rattle.dm_write.proofs.Speaking.{Speaks, sentence}
use Rattle.dm_write.proofs.DumpTokens.{terminal_seen, seen_as}
use Rattle.dm_write.proofs.DumpSentence.{fills, filled, row_letters, more_rows, insert_letters, end_letter, rows_letters, dump_letters}
use Rattle.dm_write.proofs.StatementParts.{table_parts}
use Rattle.dm_write.proofs.DumpPieces.{kept_of, values_of_row, further_parts, line_end, insert_parts}
use Rattle.dm_write.proofs.DumpStanding.{rows_parts, dump_parts}

-- The kinds of a dump's tokens.

abbrev KindsAs : List Part → List Letter → Type 0
KindsAs parts ls = map terminal_seen (spelled parts) ≡ letters.kinds_of ls

both_kinds : (a b : List Part) (x y : List Letter) → KindsAs a x → KindsAs b y → KindsAs (a ++ b) (x ++ y)
both_kinds a b x y p q =
    ap (map terminal_seen) (spelled_of_both a b) ∙ map-append terminal_seen (spelled a) (spelled b) ∙ (λ i. p i ++ q i) ∙ sym (map-append (λ (l : Letter). l.0) x y)

filled_kinds : (ss : List Spelling) → map terminal_seen ss ≡ letters.kinds_of (fills ss)
filled_kinds [] = refl
filled_kinds (s ∷ ss) = ap (λ z. terminal_seen s ∷ z) (filled_kinds ss)

row_kinds : (cs : List Column) (row : List Value) → KindsAs (tuple_parts cs row) (row_letters cs row)
row_kinds cs row = ap (λ z. terminal_seen (record { kind = token.Mark; bytes = 40 ∷ [] }) ∷ z) (both_kinds (values_of_row cs row) (mark 41 ∷ []) (filled (values_of_row cs row)) _ (filled_kinds (spelled (values_of_row cs row))) refl)

further_kinds : (cs : List Column) (rows : List (List Value)) → KindsAs (further_parts cs rows) (more_rows cs rows)
further_kinds cs [] = refl
further_kinds cs (row ∷ rows) = ap (λ z. terminal_seen (record { kind = token.Mark; bytes = 44 ∷ [] }) ∷ z) (both_kinds (tuple_parts cs row) (further_parts cs rows) (row_letters cs row) (more_rows cs rows) (row_kinds cs row) (further_kinds cs rows))

line_kinds : (table : List ℕ) (cs : List Column) (row : List Value) (rows : List (List Value)) → KindsAs (insert_parts table cs row rows) (insert_letters cs row rows ++ end_letter ∷ [])
line_kinds table cs row rows =
    ap (λ z. terminal.INSERT ∷ terminal.INTO ∷ terminal.QUOTED ∷ terminal.VALUES ∷ z)
    (both_kinds (tuple_parts cs row ++ further_parts cs rows) line_end (row_letters cs row ++ more_rows cs rows) (end_letter ∷ []) (both_kinds (tuple_parts cs row) (further_parts cs rows) (row_letters cs row) (more_rows cs rows) (row_kinds cs row) (further_kinds cs rows)) refl)

pub rows_kinds : (table : List ℕ) (cs : List Column) (rows : List (List Value)) → KindsAs (rows_parts table cs rows) (rows_letters cs rows)
rows_kinds table cs [] = refl
rows_kinds table cs (row ∷ rows) = line_kinds table cs row rows

pub dump_kinds : (table : List ℕ) (layout : Layout) (rows : List (List Value)) → KindsAs (dump_parts table layout rows) (dump_letters (spelled (table_parts table layout)) layout.columns rows)
dump_kinds table layout rows =
    ap (λ z. terminal.CREATE ∷ terminal.TABLE ∷ z)
    (both_kinds (table_parts table layout) (mark 59 ∷ Blank 10 ∷ rows_parts table layout.columns rows) (fills (spelled (table_parts table layout))) (end_letter ∷ rows_letters layout.columns rows) (filled_kinds (spelled (table_parts table layout)))
    (ap (λ z. terminal.SEMICOLON ∷ z) (rows_kinds table layout.columns rows)))

-- The contents.

seen_kinds : (text : List ℕ) (tokens : List Token) → kinds_of text tokens ≡ map terminal_seen (map (spelling_of text) tokens)
seen_kinds text [] = refl
seen_kinds text (t ∷ ts) = λ i. seen_as text t i ∷ seen_kinds text ts i

-- the contents of a text that is spelled as a sentence: the pieces with its roles, and no fault
pub contents_are : (parts : List Part) (ls : List Letter) (all : Contents) → is_spelled parts ≡ true → KindsAs parts ls → Speaks in_class dump_grammar ls → HasContents (text_of parts) all
    → all ≡ record { pieces = kept_of (text_of parts) (tokens_from 0 parts) (roles_of ls); ending = None }
contents_are parts ls all spells same speaks (found, first, reading, is) =
    let text : List ℕ = text_of parts in
    let lexed : lexed_of text ≡ lexed_as 0 parts = parts_are_lexed 0 parts spells in
    let tokens : List Token = tokens_from 0 parts in
    let kinds : kinds_of text (lexed_of text).tokens ≡ letters.kinds_of ls =
    ap (λ z. kinds_of text z.tokens) lexed ∙ seen_kinds text tokens ∙ ap (map terminal_seen) (tokens_at_are_spelled text 0 parts [] (sym (append-nil text))) ∙ same in
    let read = one_reading in_class dump_grammar (kinds_of text (lexed_of text).tokens) found (roles_of ls) first None (kinds_small text (lexed_of text).tokens) dump_ready reading
    (subst (λ (ks : List ℕ). letters.IsSentence in_class dump_grammar ks (roles_of ls)) (sym kinds) (sentence in_class dump_grammar ls speaks)) in
    is ∙ (λ i. contents text None (lexed i) (read.0 i) (read.1 i))
