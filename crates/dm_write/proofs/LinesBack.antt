-- The two lines of a written dump, each read alone: a text of rows, and a text that creates the table.
use Rattle.std.proofs.Common.{◌≡◌, ◌+◌, ◌<◌, ◌^◌, ℕ, true, ltb, leb, List, [], ◌∷◌, ◌++◌, length, Option, Some, None, Result, Ok, refl, ap, ◌∙◌, subst, arith, append-nil}
use Rattle.std.specs.List.{list_all}
use Rattle.std.specs.Cmp.Lexicographic.{pointwise}
use Rattle.std.proofs.lemmas.Bool.Decides.{nat_tests}
use Rattle.dm_value.specs.declared.value.Value.{Value}
use Rattle.dm_schema.specs.declared.column.Column.{Column}
use Rattle.dm_schema.specs.Layout.{Layout}
use Rattle.dm_schema.specs.Names.{column_names}
use Rattle.dm_schema.specs.Fits.{fits}
use Rattle.dm_schema.specs.Schemas.{is_formed}
use Rattle.dm_text.specs.Names.{quoted}
use Rattle.dm_text.specs.Columns.{create_text}
use Rattle.dm_dump.specs.declared.fault.DumpFault.{DumpFault}
use Rattle.dm_dump.specs.declared.inserts.Inserts.{Inserts}
use Rattle.dm_dump.specs.declared.outline.Span.{Span}
use Rattle.dm_dump.specs.declared.outline.Outline.{Outline}
use Rattle.dm_dump.specs.declared.dump.Created.{Created}
use Rattle.dm_dump.specs.Terminals.{in_class}
use Rattle.dm_dump.specs.Productions as rule
use Rattle.dm_dump.specs.Reading.{Contents}
use Rattle.dm_dump.specs.Units.{units}
use Rattle.dm_dump.specs.Orders.{is_order}
use Rattle.dm_dump.specs.Outlines.{least, second_place, second_create, outline_of, HasOutline}
use Rattle.dm_dump.specs.Rows.{gathered, unless_inserts, rows_of, HasRows}
use Rattle.dm_dump.specs.Dumps.{bytes_in, SaysCreate}
use Rattle.dm_dump.proofs.Laws as law
use Rattle.dm_reread.specs.Parts.{text_of, default_has_bytes}
use Rattle.dm_write.specs.Dumps.{rows_text}
use Rattle.dm_write.specs.Lengths.{has_length}
use Rattle.dm_write.specs.ReadBack.{HasInserts}
use Rattle.dm_write.proofs.Speaking.{Speaks, nothing, both, one, no_more}
use Rattle.dm_write.proofs.DumpSentence.{RowsAreRead, rows_letters, says_rows_line}
use Rattle.dm_write.proofs.DumpPieces.{KeptPiece, closed_at, rows_at, end_piece, line_end_at}
use Rattle.dm_write.proofs.DumpRows.{further_units, insert_split}
use Rattle.dm_write.proofs.DumpStanding.{rows_parts, rows_written, rows_spelled, dump_parts, dump_written, HaveBytes}
use Rattle.dm_write.proofs.DumpReading.{rows_kinds, contents_are}
use Rattle.dm_write.proofs.DumpBack.{line_pieces, line_units, line_kept, the_inserts, rows_gathered, rows_at_places, the_span, contents_known, outline_is, created_is, statement_in}
use Rattle.dm_write.proofs.BackAgain.{formed_parts, rows_read, is_written}

-- A text of rows.

line_says : (cs : List Column) (rows : List (List Value)) → RowsAreRead cs rows → Speaks in_class rule.dump_grammar (rows_letters cs rows)
line_says cs [] read = both [] [] (one [] nothing) no_more
line_says cs (row ∷ rows) read = says_rows_line cs row rows read.0 read.1

line_split : (text table : List ℕ) (cs : List Column) (rows : List (List Value)) → units (line_pieces text 0 table cs rows) ≡ line_units text 0 table cs rows
line_split text table cs [] = refl
line_split text table cs (row ∷ rows) = insert_split text 0 table cs row rows

further_no_second : (text : List ℕ) (at : ℕ) (cs : List Column) (rows : List (List Value)) (end : KeptPiece) → second_place ((end ∷ []) ∷ []) ≡ None → second_place (further_units text at cs rows ++ (end ∷ []) ∷ []) ≡ None
further_no_second text at cs [] end h = h
further_no_second text at cs (row ∷ rows) end h = further_no_second text (closed_at (at + 1) cs row + 1) cs rows end h

line_no_second : (text table : List ℕ) (cs : List Column) (rows : List (List Value)) → second_place (line_units text 0 table cs rows) ≡ None
line_no_second text table cs [] = refl
line_no_second text table cs (row ∷ rows) = further_no_second text (closed_at (rows_at 0 table) cs row + 1) cs rows (end_piece text (line_end_at (rows_at 0 table) cs row rows)) refl

line_known : (table : List ℕ) (layout : Layout) (rows : List (List Value)) (answer : Result Inserts DumpFault) → is_order layout.columns (column_names layout.columns) ≡ true → RowsAreRead layout.columns rows → HaveBytes rows
    → ltb (length (text_of (rows_parts table layout.columns rows))) (2 ^ 32) ≡ true → HasRows (text_of (rows_parts table layout.columns rows)) table layout answer → answer ≡ Ok (the_inserts 0 table layout rows)
line_known table layout rows answer order read bytes short (all, has, is) =
    let text : List ℕ = text_of (rows_parts table layout.columns rows) in
    let spells = rows_spelled table layout.columns rows bytes in
    let contents : all ≡ record { pieces = line_pieces text 0 table layout.columns rows; ending = None } =
    contents_are (rows_parts table layout.columns rows) (rows_letters layout.columns rows) all spells (rows_kinds table layout.columns rows) (line_says layout.columns rows read) has
    ∙ ap (λ z. let made : Contents = record { pieces = z; ending = None } in made) (line_kept text 0 table layout.columns rows) in
    is ∙ ap (rows_of text table layout) contents
    ∙ (λ i. unless_inserts (gathered text table layout.columns (line_split text table layout.columns rows i)) (least (second_create (second_place (line_split text table layout.columns rows i))) None))
    ∙ (λ i. unless_inserts (gathered text table layout.columns (line_units text 0 table layout.columns rows)) (least (second_create (line_no_second text table layout.columns rows i)) None))
    ∙ rows_gathered text table layout 0 rows short order read (record { here = refl; spells = spells })

test_of : (n : ℕ) → n < 2 ^ 32 → ltb n (2 ^ 32) ≡ true
test_of n short = search (nat_tests, arith)

abbrev RowsBack : List ℕ → Layout → List (List Value) → List ℕ → Type 0
RowsBack table layout rows text =
    length text < 2 ^ 32 → (answer : Result Inserts DumpFault) → HasRows text table layout answer → (inserts : Inserts) × (answer ≡ Ok inserts) × HasInserts text layout rows inserts

-- a text of rows is read as the rows
pub rows_read_back : (table : List ℕ) (layout : Layout) (rows : List (List Value)) → is_formed layout ≡ true → list_all (λ row. pointwise fits row layout.columns) rows ≡ true → HaveBytes rows
    → RowsBack table layout rows (rows_text (quoted table) layout.columns rows)
rows_read_back table layout rows formed fit bytes =
    let order = law.own_order layout formed in
    let read = rows_read layout.columns rows (formed_parts layout formed).columns fit bytes in
    subst (RowsBack table layout rows) (rows_written table layout.columns rows)
    (λ short answer says. (
      the_inserts 0 table layout rows,
      line_known table layout rows answer order read bytes (test_of _ short) says,
      (rows_at_places (text_of (rows_parts table layout.columns rows)) table layout 0 rows (test_of _ short) order read (record { here = refl; spells = rows_spelled table layout.columns rows bytes }), refl),
    ))

-- A text that creates the table.

-- its outline is one CREATE TABLE, which says the table and its schema
abbrev CreateBack : List ℕ → Layout → List ℕ → Type 0
CreateBack table layout text =
    (outline : Outline) → HasOutline text outline
    → (span : Span) × (outline ≡ record { create = Some span; first_insert = None; fault = None }) × ((created : Option Created) → SaysCreate (bytes_in text span) created → created ≡ Some (record { table = table; schema = layout }))

pub create_read_back : (table : List ℕ) (layout : Layout) → is_formed layout ≡ true → list_all (λ c. has_length c.kind) layout.columns ≡ true → list_all default_has_bytes layout.columns ≡ true → leb (length layout.columns) 256 ≡ true
    → CreateBack table layout (create_text (quoted table) layout)
create_read_back table layout formed lengths defaults few =
    let text : List ℕ = text_of (dump_parts table layout []) in
    let w = is_written layout [] formed lengths defaults refl refl few in
    subst (CreateBack table layout) (dump_written table layout [] ∙ append-nil (create_text (quoted table) layout))
    (λ outline has. (
      the_span table layout,
      has.2 ∙ ap (outline_of text) (contents_known table layout [] has.0 w has.1) ∙ outline_is text table layout [],
      (λ created says. created_is (bytes_in text (the_span table layout)) table layout created says.0 w.layout defaults (statement_in table layout []) says.1 says.2),
    ))
