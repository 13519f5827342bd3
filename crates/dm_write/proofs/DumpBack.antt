-- A dump that is written is read back.
use Rattle.std.proofs.Common.{◌≡◌, ◌+◌, ◌-◌, ◌^◌, ℕ, true, ltb, List, [], ◌∷◌, ◌++◌, take, length, Option, Some, None, Result, Ok, refl, sym, ap, ◌∙◌, subst, arith, append-nil, take_at}
use Rattle.std.specs.Prelude.{codes}
use Rattle.std.specs.List.{list_all}
use Rattle.std.proofs.lemmas.Bool.Decides.{nat_tests}
use Rattle.std.proofs.lemmas.List.{map-append}
use Rattle.dm_value.specs.declared.value.Value.{Value}
use Rattle.dm_schema.specs.declared.column.Column.{Column}
use Rattle.dm_schema.specs.Layout.{Layout}
use Rattle.dm_schema.specs.Names.{column_names}
use Rattle.dm_text.specs.Names.{quoted}
use Rattle.dm_lex.specs.declared.token.TokenKind.TheVariants as token
use Rattle.dm_grammar.specs.Sentence.{roles_of}
use Rattle.dm_syntax.specs.declared.fault.DdlFault.{DdlFault}
use Rattle.dm_syntax.specs.declared.parsing.Extent.TheVariants as extent
use Rattle.dm_syntax.specs.Names.{name_of}
use Rattle.dm_syntax.specs.Parsing.{Says}
use Rattle.dm_ddl.specs.declared.statements.Statement.{Statement}
use Rattle.dm_ddl.specs.Statements.{statement_unless}
use Rattle.dm_dump.specs.declared.role.TheConstants as role
use Rattle.dm_dump.specs.declared.fault.DumpFault.{DumpFault}
use Rattle.dm_dump.specs.declared.inserts.Inserts.{Inserts}
use Rattle.dm_dump.specs.declared.outline.Span.{Span}
use Rattle.dm_dump.specs.declared.outline.Outline.{Outline}
use Rattle.dm_dump.specs.declared.dump.Dump.{Dump}
use Rattle.dm_dump.specs.declared.dump.Created.{Created}
use Rattle.dm_dump.specs.Reading.{Contents, HasContents}
use Rattle.dm_dump.specs.Units.{units}
use Rattle.dm_dump.specs.Outlines.{least, create_place, second_place, second_create, insert_place, create_span, outline_of}
use Rattle.dm_dump.specs.Rows.{gathered, unless_inserts, rows_of, HasRows}
use Rattle.dm_dump.specs.Dumps.{bytes_in, early_insert, created_by, dump_of, DumpBy, DumpWith, IsDump}
use Rattle.dm_dump.specs.Orders.{is_order}
use Rattle.dm_reread.specs.Parts.{Part, Blank, text_of, tokens_from, spelled, mark, word, default_has_bytes}
use Rattle.dm_reread.proofs.Laws.{text_of_both, text_has_tokens, tokens_at_are_spelled, name_token_is_read}
use Rattle.dm_write.specs.ReadBack.{StandAt, orders_from, HasInserts}
use Rattle.dm_write.proofs.Placed.{Stands, past, past_all, token_at, spelling_at}
use Rattle.dm_write.proofs.DumpSentence.{filled, RowsAreRead, rows_letters, dump_letters, end_letter, says_dump}
use Rattle.dm_write.proofs.StatementParts.{table_parts, statement_parts, statement_is_spelled}
use Rattle.dm_write.proofs.Restated.{IsWrittenLayout, says_the_create}
use Rattle.dm_write.proofs.DumpPieces.{KeptPiece, piece, kept_of, passed_over, insert_parts, name_at, rows_at, closed_at, further_places, end_piece, insert_pieces, insert_kept}
use Rattle.dm_write.proofs.DumpRows.{insert_units, insert_split, further_units, FurtherStand, row_is_read, row_places, line_gathered}
use Rattle.dm_write.proofs.DumpStanding.{rows_parts, dump_parts, HaveBytes, dump_spelled, line_stands}
use Rattle.dm_write.proofs.Inner.{table_inner}
use Rattle.dm_write.proofs.DumpReading.{dump_kinds, contents_are}

-- The pieces and units.

-- where the CREATE's `;` stands
abbrev pub create_end : List ℕ → Layout → ℕ
create_end table layout = 0 + 6 + 1 + 5 + length (text_of (table_parts table layout))

-- where the line of rows begins
abbrev pub line_at : List ℕ → Layout → ℕ
line_at table layout = create_end table layout + 1 + 1

abbrev pub line_pieces : List ℕ → ℕ → List ℕ → List Column → List (List Value) → List KeptPiece
line_pieces text at table cs [] = []
line_pieces text at table cs (row ∷ rows) = insert_pieces text at table cs row rows

abbrev pub line_units : List ℕ → ℕ → List ℕ → List Column → List (List Value) → List (List KeptPiece)
line_units text at table cs [] = []
line_units text at table cs (row ∷ rows) = insert_units text at table cs row rows

abbrev pub create_pieces : List ℕ → List KeptPiece
create_pieces text = piece text (token_at 0 token.Word (codes "CREATE")) role.CREATE ∷ piece text (token_at (0 + 6 + 1) token.Word (codes "TABLE")) role.TABLE ∷ []

abbrev pub dump_pieces : List ℕ → List ℕ → Layout → List (List Value) → List KeptPiece
dump_pieces text table layout rows = create_pieces text ++ end_piece text (create_end table layout) ∷ line_pieces text (line_at table layout) table layout.columns rows

pub line_kept : (text : List ℕ) (at : ℕ) (table : List ℕ) (cs : List Column) (rows : List (List Value)) → kept_of text (tokens_from at (rows_parts table cs rows)) (roles_of (rows_letters cs rows)) ≡ line_pieces text at table cs rows
line_kept text at table cs [] = refl
line_kept text at table cs (row ∷ rows) = insert_kept text at table cs row rows

dump_kept : (text table : List ℕ) (layout : Layout) (rows : List (List Value)) → kept_of text (tokens_from 0 (dump_parts table layout rows)) (roles_of (dump_letters (spelled (table_parts table layout)) layout.columns rows)) ≡ dump_pieces text table layout rows
dump_kept text table layout rows =
    let rest : List Part = mark 59 ∷ Blank 10 ∷ rows_parts table layout.columns rows in
    ap (λ z. kept_of text (tokens_from 0 (dump_parts table layout rows)) (role.CREATE ∷ role.TABLE ∷ z)) (map-append (λ letter. letter.1) (filled (table_parts table layout)) (end_letter ∷ rows_letters layout.columns rows))
    ∙ ap (λ z. create_pieces text ++ z) (passed_over text (0 + 6 + 1 + 5) (table_parts table layout) rest (role.END ∷ roles_of (rows_letters layout.columns rows)))
    ∙ ap (λ z. create_pieces text ++ end_piece text (create_end table layout) ∷ z) (line_kept text (line_at table layout) table layout.columns rows)

abbrev dump_units : List ℕ → List ℕ → Layout → List (List Value) → List (List KeptPiece)
dump_units text table layout rows = create_pieces text ∷ (end_piece text (create_end table layout) ∷ []) ∷ line_units text (line_at table layout) table layout.columns rows

dump_split : (text table : List ℕ) (layout : Layout) (rows : List (List Value)) → units (dump_pieces text table layout rows) ≡ dump_units text table layout rows
dump_split text table layout [] = refl
dump_split text table layout (row ∷ rows) =
    ap (λ z. create_pieces text ∷ (end_piece text (create_end table layout) ∷ []) ∷ z) (insert_split text (line_at table layout) table layout.columns row rows)

-- The outline.

further_no_create : (text : List ℕ) (at : ℕ) (cs : List Column) (rows : List (List Value)) (end : KeptPiece) → create_place ((end ∷ []) ∷ []) ≡ None → create_place (further_units text at cs rows ++ (end ∷ []) ∷ []) ≡ None
further_no_create text at cs [] end h = h
further_no_create text at cs (row ∷ rows) end h = further_no_create text (closed_at (at + 1) cs row + 1) cs rows end h

no_second : (text table : List ℕ) (layout : Layout) (rows : List (List Value)) → second_place (dump_units text table layout rows) ≡ None
no_second text table layout [] = refl
no_second text table layout (row ∷ rows) = further_no_create text (closed_at (rows_at (line_at table layout) table) layout.columns row + 1) layout.columns rows _ refl

abbrev pub first_line : ℕ → List (List Value) → Option ℕ
first_line at [] = None
first_line at (row ∷ rows) = Some at

abbrev pub the_span : List ℕ → Layout → Span
the_span table layout = record { from = 0; to = create_end table layout }

abbrev pub the_outline : List ℕ → Layout → List (List Value) → Outline
the_outline table layout rows = record { create = Some (the_span table layout); first_insert = first_line (line_at table layout) rows; fault = None }

insert_is : (text table : List ℕ) (layout : Layout) (rows : List (List Value)) → insert_place (dump_units text table layout rows) ≡ first_line (line_at table layout) rows
insert_is text table layout [] = refl
insert_is text table layout (row ∷ rows) = refl

abbrev pub the_contents : List ℕ → List ℕ → Layout → List (List Value) → Contents
the_contents text table layout rows = record { pieces = dump_pieces text table layout rows; ending = None }

pub outline_is : (text table : List ℕ) (layout : Layout) (rows : List (List Value)) → outline_of text (the_contents text table layout rows) ≡ the_outline table layout rows
outline_is text table layout rows =
    let split = dump_split text table layout rows in
    (λ i. let one : Outline = record { create = create_span text (split i); first_insert = insert_place (split i); fault = least (second_create (second_place (split i))) None } in one)
    ∙ (λ i. let one : Outline = record { create = Some (the_span table layout); first_insert = insert_is text table layout rows i; fault = least (second_create (no_second text table layout rows i)) None } in one)

not_early : (table : List ℕ) (layout : Layout) (rows : List (List Value)) → early_insert (the_outline table layout rows) ≡ None
not_early table layout [] = refl
not_early table layout (row ∷ rows) = let later : ltb 0 (line_at table layout) ≡ true = search (nat_tests, arith) in rw later refl

-- The statement.

pub statement_in : (table : List ℕ) (layout : Layout) (rows : List (List Value)) → bytes_in (text_of (dump_parts table layout rows)) (the_span table layout) ≡ text_of (statement_parts table layout)
statement_in table layout rows =
    let rest : List Part = mark 59 ∷ Blank 10 ∷ rows_parts table layout.columns rows in
    let long : create_end table layout - 0 ≡ length (text_of (statement_parts table layout)) = omega arith in
    ap (λ z. take (create_end table layout - 0) z) (text_of_both (statement_parts table layout) rest)
    ∙ take_at (text_of (statement_parts table layout)) (text_of rest) (create_end table layout - 0) (sym long)

abbrev pub the_table : List ℕ → Layout → Created
the_table table layout = record { table = table; schema = layout }

-- what holds of a schema and rows that are written and read again
pub record IsWrittenDump (schema : Layout) (values : List (List Value)) : Type 0 where
  pub layout : IsWrittenLayout schema
  pub defaults : list_all default_has_bytes schema.columns ≡ true
  pub order : is_order schema.columns (column_names schema.columns) ≡ true
  pub rows : RowsAreRead schema.columns values
  pub bytes : HaveBytes values

pub created_is : (text table : List ℕ) (layout : Layout) (created : Option Created) (said : Result Statement DdlFault) → IsWrittenLayout layout → list_all default_has_bytes layout.columns ≡ true → text ≡ text_of (statement_parts table layout)
    → Says extent.Whole (statement_unless text) text said → created ≡ created_by said → created ≡ Some (the_table table layout)
created_is text table layout created said w defaults is says from =
    let spells = statement_is_spelled table layout defaults in
    let there = subst (λ (t : List ℕ). Says extent.Whole (statement_unless t) t said) is says in
    let one = says_the_create (text_of (statement_parts table layout)) table layout (tokens_from 0 (statement_parts table layout)) said w (text_has_tokens (statement_parts table layout) spells)
    (tokens_at_are_spelled (text_of (statement_parts table layout)) 0 (statement_parts table layout) [] (sym (append-nil (text_of (statement_parts table layout))))) there in
    from ∙ ap created_by one

-- The rows.

named_at : (text table : List ℕ) (cs : List Column) (at : ℕ) (row : List Value) (rows : List (List Value)) → Stands text at (insert_parts table cs row rows) → name_of text (token_at (name_at at) token.Quoted (quoted table)) ≡ table
named_at text table cs at row rows s =
    let named = past text (at + 6 + 1 + 4) (Blank 32) _ (past text (at + 6 + 1) (word (codes "INTO")) _ (past text (at + 6) (Blank 32) _ (past text at (word (codes "INSERT")) _ s))) in
    name_token_is_read text (token_at (name_at at) token.Quoted (quoted table)) table (spelling_at text (name_at at) token.Quoted (quoted table) _ named)

abbrev pub line_places : ℕ → List ℕ → List Column → List (List Value) → List ℕ
line_places at table cs [] = []
line_places at table cs (row ∷ rows) = row_places (rows_at at table) cs row rows

abbrev pub the_inserts : ℕ → List ℕ → Layout → List (List Value) → Inserts
the_inserts at table layout rows = record { places = line_places at table layout.columns rows; orders = orders_from layout (line_places at table layout.columns rows) }

pub rows_gathered : (text table : List ℕ) (layout : Layout) (at : ℕ) (rows : List (List Value)) → ltb (length text) (2 ^ 32) ≡ true → is_order layout.columns (column_names layout.columns) ≡ true → RowsAreRead layout.columns rows → Stands text at (rows_parts table layout.columns rows)
    → unless_inserts (gathered text table layout.columns (line_units text at table layout.columns rows)) None ≡ Ok (the_inserts at table layout rows)
rows_gathered text table layout at [] short order read s = refl
rows_gathered text table layout at (row ∷ rows) short order read s =
    let stands = line_stands text table layout.columns at row rows short read.0 read.1 s in
    ap (λ g. unless_inserts g None) (line_gathered text table layout.columns at row rows order (named_at text table layout.columns at row rows s) stands.0 stands.1)

further_at : (text : List ℕ) (layout : Layout) (at : ℕ) (rows : List (List Value)) → is_order layout.columns (column_names layout.columns) ≡ true → FurtherStand text at layout.columns rows → StandAt text layout (further_places at layout.columns rows) rows
further_at text layout at [] order stand = tt
further_at text layout at (row ∷ rows) order stand = (row_is_read text layout (at + 1) row order stand.0, further_at text layout (closed_at (at + 1) layout.columns row + 1) rows order stand.1)

pub rows_at_places : (text table : List ℕ) (layout : Layout) (at : ℕ) (rows : List (List Value)) → ltb (length text) (2 ^ 32) ≡ true → is_order layout.columns (column_names layout.columns) ≡ true → RowsAreRead layout.columns rows → Stands text at (rows_parts table layout.columns rows)
    → StandAt text layout (line_places at table layout.columns rows) rows
rows_at_places text table layout at [] short order read s = tt
rows_at_places text table layout at (row ∷ rows) short order read s =
    let stands = line_stands text table layout.columns at row rows short read.0 read.1 s in
    (row_is_read text layout (rows_at at table) row order stands.0, further_at text layout (closed_at (rows_at at table) layout.columns row + 1) rows order stands.1)

-- The whole.

pub contents_known : (table : List ℕ) (layout : Layout) (rows : List (List Value)) (all : Contents) → IsWrittenDump layout rows → HasContents (text_of (dump_parts table layout rows)) all → all ≡ the_contents (text_of (dump_parts table layout rows)) table layout rows
contents_known table layout rows all w has =
    let text : List ℕ = text_of (dump_parts table layout rows) in
    contents_are (dump_parts table layout rows) (dump_letters (spelled (table_parts table layout)) layout.columns rows) all (dump_spelled table layout rows w.defaults w.bytes) (dump_kinds table layout rows)
    (says_dump (spelled (table_parts table layout)) layout.columns rows (table_inner table layout w.layout.read) w.rows) has
    ∙ ap (λ z. let one : Contents = record { pieces = z; ending = None } in one) (dump_kept text table layout rows)

line_stand : (table : List ℕ) (layout : Layout) (rows : List (List Value)) → IsWrittenDump layout rows → Stands (text_of (dump_parts table layout rows)) (line_at table layout) (rows_parts table layout.columns rows)
line_stand table layout rows w =
    let text : List ℕ = text_of (dump_parts table layout rows) in
    let rest : List Part = rows_parts table layout.columns rows in
    let start : Stands text 0 (dump_parts table layout rows) = record { here = refl; spells = dump_spelled table layout rows w.defaults w.bytes } in
    let long : 0 + length (text_of (statement_parts table layout)) ≡ create_end table layout = omega arith in
    let end = subst (λ (n : ℕ). Stands text n (mark 59 ∷ Blank 10 ∷ rest)) long (past_all text 0 (statement_parts table layout) (mark 59 ∷ Blank 10 ∷ rest) start) in
    past text (create_end table layout + 1) (Blank 10) rest (past text (create_end table layout) (mark 59) (Blank 10 ∷ rest) end)

rows_known : (table : List ℕ) (layout : Layout) (rows : List (List Value)) → IsWrittenDump layout rows → ltb (length (text_of (dump_parts table layout rows))) (2 ^ 32) ≡ true
    → rows_of (text_of (dump_parts table layout rows)) table layout (the_contents (text_of (dump_parts table layout rows)) table layout rows) ≡ Ok (the_inserts (line_at table layout) table layout rows)
rows_known table layout rows w short =
    let text : List ℕ = text_of (dump_parts table layout rows) in
    let split = dump_split text table layout rows in
    (λ i. unless_inserts (gathered text table layout.columns (split i)) (least (second_create (second_place (split i))) None))
    ∙ (λ i. unless_inserts (gathered text table layout.columns (dump_units text table layout rows)) (least (second_create (no_second text table layout rows i)) None))
    ∙ rows_gathered text table layout (line_at table layout) rows short w.order w.rows (line_stand table layout rows w)

abbrev the_answer : List ℕ → Layout → List (List Value) → Result Dump DumpFault
the_answer table layout rows = Ok (record { table = table; schema = layout; inserts = the_inserts (line_at table layout) table layout rows })

table_known : (table : List ℕ) (layout : Layout) (rows : List (List Value)) (created : Option Created) (answer : Result Dump DumpFault) → IsWrittenDump layout rows → ltb (length (text_of (dump_parts table layout rows))) (2 ^ 32) ≡ true
    → created ≡ Some (the_table table layout) → DumpBy (text_of (dump_parts table layout rows)) (the_outline table layout rows) (the_span table layout) created answer → answer ≡ the_answer table layout rows
table_known table layout rows created answer w short known says =
    let text : List ℕ = text_of (dump_parts table layout rows) in
    let there = subst (λ (c : Option Created). DumpBy text (the_outline table layout rows) (the_span table layout) c answer) known says in
    by there.0 there.1 there.2
  where
    by : (found : Result Inserts DumpFault) → HasRows (text_of (dump_parts table layout rows)) table layout found → answer ≡ dump_of (early_insert (the_outline table layout rows)) (the_table table layout) found → answer ≡ the_answer table layout rows
    by found (all, has, is) from =
        let read : found ≡ Ok (the_inserts (line_at table layout) table layout rows) =
        is ∙ ap (rows_of (text_of (dump_parts table layout rows)) table layout) (contents_known table layout rows all w has) ∙ rows_known table layout rows w short in
        from ∙ (λ i. dump_of (not_early table layout rows i) (the_table table layout) (read i))

answer_known : (table : List ℕ) (layout : Layout) (rows : List (List Value)) (answer : Result Dump DumpFault) → IsWrittenDump layout rows → ltb (length (text_of (dump_parts table layout rows))) (2 ^ 32) ≡ true
    → IsDump (text_of (dump_parts table layout rows)) answer → answer ≡ the_answer table layout rows
answer_known table layout rows answer w short (outline, (all, has, is), dumped) =
    let text : List ℕ = text_of (dump_parts table layout rows) in
    let known : outline ≡ the_outline table layout rows = is ∙ ap (outline_of text) (contents_known table layout rows all w has) ∙ outline_is text table layout rows in
    let there = subst (λ (o : Outline). DumpWith text o o.create answer) known dumped in
    table_known table layout rows there.0 answer w short
    (created_is (bytes_in text (the_span table layout)) table layout there.0 there.1.0 w.layout w.defaults (statement_in table layout rows) there.1.1 there.1.2) there.2

pub parts_read_back : (table : List ℕ) (layout : Layout) (rows : List (List Value)) → IsWrittenDump layout rows → ltb (length (text_of (dump_parts table layout rows))) (2 ^ 32) ≡ true → (answer : Result Dump DumpFault)
    → IsDump (text_of (dump_parts table layout rows)) answer
    → (inserts : Inserts) × (answer ≡ Ok (record { table = table; schema = layout; inserts = inserts })) × HasInserts (text_of (dump_parts table layout rows)) layout rows inserts
parts_read_back table layout rows w short answer says = (
  the_inserts (line_at table layout) table layout rows,
  answer_known table layout rows answer w short says,
  (rows_at_places (text_of (dump_parts table layout rows)) table layout (line_at table layout) rows short w.order w.rows (line_stand table layout rows w), refl),
)
