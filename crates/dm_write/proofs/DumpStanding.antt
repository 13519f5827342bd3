-- What stands in a written dump: its text, its parts, and its rows at their places.
use Rattle.std.proofs.Common.{◌≡◌, ◌+◌, ◌^◌, ℕ, zero, suc, true, ltb, List, [], ◌∷◌, ◌++◌, map, drop, length, Some, refl, sym, ap, ◌∙◌, subst, arith, append_assoc}
use Rattle.std.specs.Prelude.{codes, slice_get}
use Rattle.std.specs.List.{flat_map, list_all}
use Rattle.std.proofs.lemmas.Bool.{and_parts}
use Rattle.std.proofs.lemmas.List.{length-append}
use Rattle.dm_value.specs.declared.value.Value.{Value}
use Rattle.dm_schema.specs.declared.column.Column.{Column}
use Rattle.dm_schema.specs.Layout.{Layout}
use Rattle.dm_text.specs.Names.{quoted}
use Rattle.dm_text.specs.Values.{tuple_text}
use Rattle.dm_text.specs.Columns.{create_text}
use Rattle.dm_lex.specs.Tokens.{lexed}
use Rattle.dm_dump.specs.declared.literal.Waiting.TheVariants as waiting
use Rattle.dm_dump.specs.Literals.{has_bracket, literals_from, values_of}
use Rattle.dm_reread.specs.Parts.{Part, Blank, text_of, tokens_from, word, mark, name_part, name_item, behind_comma, tuple_parts, is_spelled, is_spelled_before, has_bytes, default_has_bytes, create_parts}
use Rattle.dm_reread.proofs.Laws.{text_of_both, both_are_spelled, tuple_is_spelled, tuple_is_written, name_is_written, create_is_written, create_is_spelled, name_is_spelled, name_before}
use Rattle.dm_write.specs.Dumps.{tuples_text, insert_text, rows_text, dump_text}
use Rattle.dm_write.proofs.Placed.{Stands, past, past_all, lexed_there}
use Rattle.dm_write.proofs.RowValues.{AreRead, row_values}
use Rattle.dm_write.proofs.DumpSentence.{RowsAreRead}
use Rattle.dm_write.proofs.StatementParts.{statement_parts, create_ends}
use Rattle.dm_write.proofs.DumpPieces.{values_of_row, closed_at, further_parts, line_end, insert_parts, name_at, values_at, rows_at}
use Rattle.dm_write.proofs.DumpRows.{RowStands, FurtherStand}

-- Parts.

abbrev pub rows_parts : List ℕ → List Column → List (List Value) → List Part
rows_parts table cs [] = []
rows_parts table cs (row ∷ rows) = insert_parts table cs row rows

abbrev pub dump_parts : List ℕ → Layout → List (List Value) → List Part
dump_parts table layout rows = statement_parts table layout ++ mark 59 ∷ Blank 10 ∷ rows_parts table layout.columns rows

from_create : (table : List ℕ) (layout : Layout) (rows : List (List Value)) → create_parts (name_item table) layout ++ rows_parts table layout.columns rows ≡ dump_parts table layout rows
from_create table layout rows = ap (λ z. z ++ rows_parts table layout.columns rows) (create_ends table layout) ∙ append_assoc (statement_parts table layout) line_end (rows_parts table layout.columns rows)

-- The text.

further_written : (cs : List Column) (rows : List (List Value)) → text_of (further_parts cs rows) ≡ flat_map (λ piece. 44 ∷ piece) (map (tuple_text cs) rows)
further_written cs [] = refl
further_written cs (row ∷ rows) =
    text_of_both (behind_comma (tuple_parts cs row)) (further_parts cs rows) ∙ (λ i. (44 ∷ tuple_is_written cs row i) ++ further_written cs rows i)

tuples_written : (cs : List Column) (row : List Value) (rows : List (List Value)) → text_of (tuple_parts cs row ++ further_parts cs rows) ≡ tuples_text cs (row ∷ rows)
tuples_written cs row rows = text_of_both (tuple_parts cs row) (further_parts cs rows) ∙ (λ i. tuple_is_written cs row i ++ further_written cs rows i)

five_behind : (a b c d e : List ℕ) → a ++ (b ++ (c ++ (d ++ e))) ≡ (a ++ b ++ c ++ d ++ e)
five_behind a b c d e = simp append_assoc

line_written : (table : List ℕ) (cs : List Column) (row : List Value) (rows : List (List Value)) → text_of (insert_parts table cs row rows) ≡ insert_text (quoted table) cs (row ∷ rows)
line_written table cs row rows =
    let line = text_of_both (tuple_parts cs row ++ further_parts cs rows) line_end ∙ ap (λ z. z ++ codes ";\n") (tuples_written cs row rows) in
    ap (λ z. codes "INSERT INTO " ++ (quoted table ++ (codes " VALUES " ++ z))) line ∙ five_behind (codes "INSERT INTO ") (quoted table) (codes " VALUES ") (tuples_text cs (row ∷ rows)) (codes ";\n")

pub rows_written : (table : List ℕ) (cs : List Column) (rows : List (List Value)) → text_of (rows_parts table cs rows) ≡ rows_text (quoted table) cs rows
rows_written table cs [] = refl
rows_written table cs (row ∷ rows) = line_written table cs row rows

pub dump_written : (table : List ℕ) (layout : Layout) (rows : List (List Value)) → text_of (dump_parts table layout rows) ≡ dump_text table layout rows
dump_written table layout rows =
    ap text_of (sym (from_create table layout rows)) ∙ text_of_both (create_parts (name_item table) layout) (rows_parts table layout.columns rows)
    ∙ (λ i. (create_is_written (name_item table) layout ∙ ap (λ z. create_text z layout) (name_is_written table)) i ++ rows_written table layout.columns rows i)

-- Each part is spelled.

abbrev pub HaveBytes : List (List Value) → Type 0
HaveBytes rows = list_all (λ row. list_all has_bytes row) rows ≡ true

further_spelled : (cs : List Column) (rows : List (List Value)) (behind : List ℕ) → HaveBytes rows → is_spelled_before behind (further_parts cs rows) ≡ true
further_spelled cs [] behind bytes = refl
further_spelled cs (row ∷ rows) behind bytes =
    let has = and_parts (list_all has_bytes row) (list_all (λ row. list_all has_bytes row) rows) bytes in
    both_are_spelled (tuple_parts cs row) (further_parts cs rows) behind (tuple_is_spelled cs row (text_of (further_parts cs rows) ++ behind) has.0) (further_spelled cs rows behind has.1)

line_spelled : (table : List ℕ) (cs : List Column) (row : List Value) (rows : List (List Value)) → HaveBytes (row ∷ rows) → is_spelled (insert_parts table cs row rows) ≡ true
line_spelled table cs row rows bytes =
    let has = and_parts (list_all has_bytes row) (list_all (λ row. list_all has_bytes row) rows) bytes in
    let tuples : List Part = tuple_parts cs row ++ further_parts cs rows in
    name_before table (Blank 32 ∷ word (codes "VALUES") ∷ Blank 32 ∷ tuples ++ line_end) [] refl
    (both_are_spelled tuples line_end [] (both_are_spelled (tuple_parts cs row) (further_parts cs rows) (59 ∷ 10 ∷ []) (tuple_is_spelled cs row (text_of (further_parts cs rows) ++ 59 ∷ 10 ∷ []) has.0) (further_spelled cs rows (59 ∷ 10 ∷ []) has.1)) refl)

pub rows_spelled : (table : List ℕ) (cs : List Column) (rows : List (List Value)) → HaveBytes rows → is_spelled (rows_parts table cs rows) ≡ true
rows_spelled table cs [] bytes = refl
rows_spelled table cs (row ∷ rows) bytes = line_spelled table cs row rows bytes

pub dump_spelled : (table : List ℕ) (layout : Layout) (rows : List (List Value)) → list_all default_has_bytes layout.columns ≡ true → HaveBytes rows → is_spelled (dump_parts table layout rows) ≡ true
dump_spelled table layout rows defaults bytes =
    subst (λ (ps : List Part). is_spelled ps ≡ true) (from_create table layout rows)
    (both_are_spelled (create_parts (name_item table) layout) (rows_parts table layout.columns rows) [] (create_is_spelled (name_item table) layout (text_of (rows_parts table layout.columns rows) ++ []) (λ more. name_is_spelled table (32 ∷ more) refl) defaults) (rows_spelled table layout.columns rows bytes))

-- Rows.

there_is : (text : List ℕ) (at b : ℕ) (xs : List ℕ) → drop at text ≡ b ∷ xs → slice_get text at ≡ Some b
there_is [] zero b xs h = absurd cc
there_is [] (suc at) b xs h = absurd cc
there_is (x ∷ text) zero b xs h = let same : x ≡ b = cc in ap Some same
there_is (x ∷ text) (suc at) b xs h = there_is text at b xs h

row_stands : (text : List ℕ) (cs : List Column) (at : ℕ) (row : List Value) (rest : List Part) → ltb (length text) (2 ^ 32) ≡ true → AreRead cs row → Stands text at (tuple_parts cs row ++ rest) → RowStands text cs at row
row_stands text cs at row rest short read s =
    let values : List Part = values_of_row cs row in
    let parts : (values ++ mark 41 ∷ []) ++ rest ≡ values ++ mark 41 ∷ rest = append_assoc values (mark 41 ∷ []) rest in
    let opened : Stands text at (mark 40 ∷ values ++ mark 41 ∷ rest) = subst (λ (ps : List Part). Stands text at (mark 40 ∷ ps)) parts s in
    let inner = past text at (mark 40) (values ++ mark 41 ∷ rest) opened in
    let bracket : has_bracket text at ≡ true = rw (short, there_is text at 40 _ opened.here) refl in
    let tokens : (lexed (record { text = text; at = at + 1 })).tokens ≡ tokens_from (at + 1) (values ++ mark 41 ∷ rest) = ap (λ z. z.tokens) (lexed_there text (at + 1) (values ++ mark 41 ∷ rest) inner) in
    record {
      bracket = bracket;
      values = rw bracket (ap (λ ts. values_of text cs (literals_from text waiting.Literal ts)) tokens ∙ row_values text (at + 1) cs row rest read inner);
    }

tuple_long : (cs : List Column) (row : List Value) (at : ℕ) → at + length (text_of (tuple_parts cs row)) ≡ closed_at at cs row + 1
tuple_long cs row at =
    let both = ap length (text_of_both (values_of_row cs row) (mark 41 ∷ [])) in
    let long = length-append (text_of (values_of_row cs row)) (41 ∷ []) in
    omega (arith, both, long)

behind_tuple : (text : List ℕ) (cs : List Column) (at : ℕ) (row : List Value) (rest : List Part) → Stands text at (tuple_parts cs row ++ rest) → Stands text (closed_at at cs row + 1) rest
behind_tuple text cs at row rest s = subst (λ (n : ℕ). Stands text n rest) (tuple_long cs row at) (past_all text at (tuple_parts cs row) rest s)

further_stand : (text : List ℕ) (cs : List Column) (at : ℕ) (rows : List (List Value)) (rest : List Part) → ltb (length text) (2 ^ 32) ≡ true → RowsAreRead cs rows → Stands text at (further_parts cs rows ++ rest) → FurtherStand text at cs rows
further_stand text cs at [] rest short read s = tt
further_stand text cs at (row ∷ rows) rest short read s =
    let parts : (tuple_parts cs row ++ further_parts cs rows) ++ rest ≡ tuple_parts cs row ++ (further_parts cs rows ++ rest) = append_assoc (tuple_parts cs row) (further_parts cs rows) rest in
    let here = past text at (mark 44) (tuple_parts cs row ++ (further_parts cs rows ++ rest)) (subst (λ (ps : List Part). Stands text at (mark 44 ∷ ps)) parts s) in (
      row_stands text cs (at + 1) row (further_parts cs rows ++ rest) short read.0 here,
      further_stand text cs (closed_at (at + 1) cs row + 1) rows rest short read.1 (behind_tuple text cs (at + 1) row (further_parts cs rows ++ rest) here),
    )

-- the rows of a line stand at their places
pub line_stands : (text table : List ℕ) (cs : List Column) (at : ℕ) (row : List Value) (rows : List (List Value)) → ltb (length text) (2 ^ 32) ≡ true → AreRead cs row → RowsAreRead cs rows → Stands text at (insert_parts table cs row rows)
    → RowStands text cs (rows_at at table) row × FurtherStand text (closed_at (rows_at at table) cs row + 1) cs rows
line_stands text table cs at row rows short read more s =
    let parts : (tuple_parts cs row ++ further_parts cs rows) ++ line_end ≡ tuple_parts cs row ++ (further_parts cs rows ++ line_end) = append_assoc (tuple_parts cs row) (further_parts cs rows) line_end in
    let inner : List Part = (tuple_parts cs row ++ further_parts cs rows) ++ line_end in
    let named = past text (at + 6 + 1 + 4) (Blank 32) _ (past text (at + 6 + 1) (word (codes "INTO")) _ (past text (at + 6) (Blank 32) _ (past text at (word (codes "INSERT")) _ s))) in
    let values = past text (name_at at + length (quoted table)) (Blank 32) _ (past text (name_at at) (name_part table) _ named) in
    let there : Stands text (rows_at at table) inner = past text (values_at at table + 6) (Blank 32) inner (past text (values_at at table) (word (codes "VALUES")) (Blank 32 ∷ inner) values) in
    let here = subst (Stands text (rows_at at table)) parts there in (
      row_stands text cs (rows_at at table) row (further_parts cs rows ++ line_end) short read here,
      further_stand text cs (closed_at (rows_at at table) cs row + 1) rows line_end short more (behind_tuple text cs (rows_at at table) row (further_parts cs rows ++ line_end) here),
    )
