-- The rows of a written dump are gathered at their places.
use Rattle.std.proofs.Common.{◌≡◌, ◌==◌, ◌&&◌, ◌+◌, ℕ, suc, Bool, true, false, not, cond, List, [], ◌∷◌, ◌++◌, fold, length, Option, Some, None, refl, sym, ap, ◌∙◌, subst, append_assoc, append-nil, eq-eqb}
use Rattle.std.specs.Prelude.{⊤, is_some, option_and_then}
use Rattle.std.specs.Option.{option_map, option_to_list}
use Rattle.std.specs.List.{list_any}
use Rattle.std.proofs.lemmas.Bool.{and_parts}
use Rattle.std.proofs.lemmas.Cmp.{nat_list_eq_equiv}
use Rattle.dm_value.specs.declared.value.Value.{Value}
use Rattle.dm_schema.specs.declared.column.Column.{Column}
use Rattle.dm_schema.specs.Layout.{Layout}
use Rattle.dm_schema.specs.Names.{Text, same_name, column_at, column_names}
use Rattle.dm_schema.specs.Schemas.{all_columns, names_repeat}
use Rattle.dm_text.specs.Names.{quoted}
use Rattle.dm_lex.specs.declared.token.TokenKind.TheVariants as token
use Rattle.dm_syntax.specs.declared.piece.Piece.{Piece}
use Rattle.dm_syntax.specs.Names.{name_of}
use Rattle.dm_syntax.specs.Pieces.{parts}
use Rattle.dm_dump.specs.declared.inserts.InsertOrder.{InsertOrder}
use Rattle.dm_dump.specs.declared.literal.Literal.{Literal}
use Rattle.dm_dump.specs.Units.{begins_unit}
use Rattle.dm_dump.specs.Literals.{has_bracket, literals_at, value_in, values_of, first_unfit}
use Rattle.dm_dump.specs.Orders.{is_order, columns_by, stand_so, in_schema_order, row_of}
use Rattle.dm_dump.specs.Rows.{row_fault, Gathered, nothing, with_place, with_unit, gathered}
use Rattle.dm_write.proofs.Splitting.{either_false}
use Rattle.dm_write.proofs.Placed.{token_at}
use Rattle.dm_write.proofs.DumpPieces.{KeptPiece, closed_at, row_pieces, further_places, further_pieces, end_piece, line_end_at, all_rows, head_pieces, name_at, rows_at, insert_pieces}

-- Units.

abbrev pub further_units : List ℕ → ℕ → List Column → List (List Value) → List (List KeptPiece)
further_units text at cs [] = []
further_units text at cs (row ∷ rows) = row_pieces text (at + 1) cs row ∷ further_units text (closed_at (at + 1) cs row + 1) cs rows

rows_split : (text : List ℕ) (at : ℕ) (cs : List Column) (row : List Value) (rows : List (List Value)) → parts begins_unit (all_rows text at cs row rows) ≡ row_pieces text at cs row ∷ (further_units text (closed_at at cs row + 1) cs rows ++ (end_piece text (line_end_at at cs row rows) ∷ []) ∷ [])
rows_split text at cs row [] = refl
rows_split text at cs row (next ∷ rows) =
    let joined = append_assoc (row_pieces text (closed_at at cs row + 1 + 1) cs next) (further_pieces text (closed_at (closed_at at cs row + 1 + 1) cs next + 1) cs rows) (end_piece text (line_end_at at cs row (next ∷ rows)) ∷ []) in
    ap (λ z. row_pieces text at cs row ∷ z) (rows_split text (closed_at at cs row + 1 + 1) cs next rows)

-- the units of the line that inserts rows
abbrev pub insert_units : List ℕ → ℕ → List ℕ → List Column → List Value → List (List Value) → List (List KeptPiece)
insert_units text at table cs row rows =
    head_pieces text at table ∷ row_pieces text (rows_at at table) cs row ∷ (further_units text (closed_at (rows_at at table) cs row + 1) cs rows ++ (end_piece text (line_end_at (rows_at at table) cs row rows) ∷ []) ∷ [])

pub insert_split : (text : List ℕ) (at : ℕ) (table : List ℕ) (cs : List Column) (row : List Value) (rows : List (List Value)) → parts begins_unit (insert_pieces text at table cs row rows) ≡ insert_units text at table cs row rows
insert_split text at table cs row rows = ap (λ z. head_pieces text at table ∷ z) (rows_split text (rows_at at table) cs row rows)

-- A row at its place.

-- a row's bracket stands at the place, and its literals have these values
pub record RowStands (text : List ℕ) (cs : List Column) (at : ℕ) (row : List Value) : Type 0 where
  pub bracket : has_bracket text at ≡ true
  pub values : values_of text cs (literals_at text at) ≡ Some row

some_rest : {A B : Type 0} (f : A → B) (o : Option A) (x : B) → option_map f o ≡ Some x → is_some o ≡ true
some_rest f None x h = absurd cc
some_rest f (Some y) x h = refl

-- values for all columns leave none without
all_fit : (text : List ℕ) (cs : List Column) (ls : List Literal) → is_some (values_of text cs ls) ≡ true → (length ls ≡ length cs) × (first_unfit text cs ls ≡ None)
all_fit text [] [] h = (refl, refl)
all_fit text [] (l ∷ ls) h = absurd cc
all_fit text (c ∷ cs) [] h = absurd cc
all_fit text (c ∷ cs) (l ∷ ls) h = by (value_in text c l) refl h (all_fit text cs ls) where
  mapped : {A B : Type 0} (f : A → B) (o : Option A) → is_some (option_map f o) ≡ true → is_some o ≡ true
  mapped f None h = absurd cc
  mapped f (Some x) h = refl

  by : (o : Option Value) → value_in text c l ≡ o → is_some (option_and_then (λ v. option_map (λ vs. v ∷ vs) (values_of text cs ls)) o) ≡ true → (is_some (values_of text cs ls) ≡ true → (length ls ≡ length cs) × (first_unfit text cs ls ≡ None))
      → (length (l ∷ ls) ≡ length (c ∷ cs)) × (first_unfit text (c ∷ cs) (l ∷ ls) ≡ None)
  by None e h rest = absurd cc
  by (Some v) e h rest =
      let behind = rest (mapped (λ vs. v ∷ vs) (values_of text cs ls) h) in
      (ap suc behind.0, rw e behind.1)

no_fault : (text : List ℕ) (cs : List Column) (at : ℕ) (row : List Value) → RowStands text cs at row → row_fault text at true cs ≡ None
no_fault text cs at row s =
    let fit = all_fit text cs (literals_at text at) (ap is_some s.values) in
    let count : (length (literals_at text at) == length cs) ≡ true = eq-eqb _ _ fit.0 in
    rw (count, fit.1) refl

-- Gathering.

abbrev pub gathered_as : List Column → List ℕ → List InsertOrder → Gathered
gathered_as cs places orders = record { columns = cs; is_new = false; places = places; orders = orders; fault = None }

abbrev step : List ℕ → List ℕ → List Column → Gathered → List Piece → Gathered
step text table cs = with_unit text table cs

row_gathered : (text table : List ℕ) (cs all : List Column) (g : Gathered) (at : ℕ) (row : List Value) → g.fault ≡ None → row_fault text at true g.columns ≡ None → step text table all g (row_pieces text at cs row) ≡ with_place g at
row_gathered text table cs all g at row fine none = rw (fine, none) refl

-- each of the rows behind commas stands at its place
abbrev pub FurtherStand : List ℕ → ℕ → List Column → List (List Value) → Type 0
FurtherStand text at cs [] = ⊤
FurtherStand text at cs (row ∷ rows) = RowStands text cs (at + 1) row × FurtherStand text (closed_at (at + 1) cs row + 1) cs rows

further_gathered : (text table : List ℕ) (cs all : List Column) (at : ℕ) (rows : List (List Value)) (places : List ℕ) (orders : List InsertOrder) (end : KeptPiece) → FurtherStand text at cs rows → step text table all (gathered_as cs (places ++ further_places at cs rows) orders) (end ∷ []) ≡ gathered_as cs (places ++ further_places at cs rows) orders
    → fold (step text table all) (gathered_as cs places orders) (further_units text at cs rows ++ (end ∷ []) ∷ []) ≡ gathered_as cs (places ++ further_places at cs rows) orders
further_gathered text table cs all at [] places orders end stand last = ap (λ z. step text table all (gathered_as cs z orders) (end ∷ [])) (sym (append-nil places)) ∙ last
further_gathered text table cs all at (row ∷ rows) places orders end stand last =
    let rest : ℕ = closed_at (at + 1) cs row + 1 in
    let joined : (places ++ (at + 1) ∷ []) ++ further_places rest cs rows ≡ places ++ further_places at cs (row ∷ rows) = append_assoc places ((at + 1) ∷ []) (further_places rest cs rows) in
    let here = row_gathered text table cs all (gathered_as cs places orders) (at + 1) row refl (no_fault text cs (at + 1) row stand.0) in
    ap (λ g. fold (step text table all) g (further_units text rest cs rows ++ (end ∷ []) ∷ [])) here
    ∙ further_gathered text table cs all rest rows (places ++ (at + 1) ∷ []) orders end stand.1 (subst (λ z. step text table all (gathered_as cs z orders) (end ∷ []) ≡ gathered_as cs z orders) (sym joined) last)
    ∙ ap (λ z. gathered_as cs z orders) joined

-- The head of the line.

same_itself : (name : Text) → same_name name name ≡ true
same_itself name = nat_list_eq_equiv.refl name

-- a column's name finds it
skipped : (c : Column) (cs : List Column) (names : List Text) → list_any (λ n. same_name c.name n) names ≡ false → columns_by (c ∷ cs) names ≡ columns_by cs names
skipped c cs [] h = refl
skipped c cs (n ∷ ns) h =
    let both = either_false (same_name c.name n) (list_any (λ n. same_name c.name n) ns) h in
    rw both.0 (ap (λ z. option_to_list (column_at cs n) ++ z) (skipped c cs ns both.1))

pub own_columns : (cs : List Column) → names_repeat (column_names cs) ≡ false → columns_by cs (column_names cs) ≡ cs
own_columns [] h = refl
own_columns (c ∷ cs) h =
    let both = either_false (list_any (λ n. same_name c.name n) (column_names cs)) (names_repeat (column_names cs)) h in
    rw (same_itself c.name) (ap (λ z. c ∷ z) (skipped c cs (column_names cs) both.0 ∙ own_columns cs both.1))

pub stands_so : (cs : List Column) → stand_so cs (column_names cs) ≡ true
stands_so [] = refl
stands_so (c ∷ cs) = rw (same_itself c.name) (stands_so cs)

no_repeat : (b : Bool) → not b ≡ true → b ≡ false
no_repeat true h = absurd cc
no_repeat false h = refl

pub order_is_own : (cs : List Column) → is_order cs (column_names cs) ≡ true → columns_by cs (column_names cs) ≡ cs
order_is_own cs h = own_columns cs (no_repeat (names_repeat (column_names cs)) (and_parts (length (column_names cs) == length cs && all_columns cs (column_names cs)) (not (names_repeat (column_names cs))) h).1)

if_both : {A B : Type 0} (b o : Bool) (f : A → B) (v : Option A) (x : A) → b ≡ true → o ≡ true → v ≡ Some x → cond (b && o) (option_map f v) None ≡ Some (f x)
if_both b o f v x p q r = rw (p, q, r) refl

in_order : (cs : List Column) (row : List Value) → in_schema_order cs (column_names cs) row ≡ row
in_order cs row = rw (stands_so cs) refl

-- the row is read again
pub row_is_read : (text : List ℕ) (layout : Layout) (at : ℕ) (row : List Value) → is_order layout.columns (column_names layout.columns) ≡ true → RowStands text layout.columns at row → row_of text at (column_names layout.columns) layout ≡ Some row
row_is_read text layout at row order s =
    let own = order_is_own layout.columns order in
    let values : values_of text (columns_by layout.columns (column_names layout.columns)) (literals_at text at) ≡ Some row = ap (λ z. values_of text z (literals_at text at)) own ∙ s.values in
    if_both (has_bracket text at) (is_order layout.columns (column_names layout.columns)) (in_schema_order layout.columns (column_names layout.columns)) (values_of text (columns_by layout.columns (column_names layout.columns)) (literals_at text at)) row s.bracket order values
    ∙ ap Some (in_order layout.columns row)

-- columns in the order of a table, with no row so far
abbrev ordered : List Column → Gathered
ordered cs = record { columns = cs; is_new = true; places = []; orders = []; fault = None }

head_gathered : (text table : List ℕ) (cs : List Column) (at : ℕ) → is_order cs (column_names cs) ≡ true → name_of text (token_at (name_at at) token.Quoted (quoted table)) ≡ table
    → step text table cs nothing (head_pieces text at table) ≡ ordered cs
head_gathered text table [] at order named =
    let same : same_name (name_of text (token_at (name_at at) token.Quoted (quoted table))) table ≡ true = ap (λ z. same_name z table) named ∙ same_itself table in
    rw same refl
head_gathered text table (c ∷ cs) at order named =
    let own = order_is_own (c ∷ cs) order in
    let same : same_name (name_of text (token_at (name_at at) token.Quoted (quoted table))) table ≡ true = ap (λ z. same_name z table) named ∙ same_itself table in
    rw same (ap ordered own)

-- the order of a written table's rows
abbrev pub own_order : ℕ → List Column → InsertOrder
own_order at cs = record { first = at; order = column_names cs }

-- the places of a line's rows, of which the first stands at the place
abbrev pub row_places : ℕ → List Column → List Value → List (List Value) → List ℕ
row_places at cs row rows = at ∷ further_places (closed_at at cs row + 1) cs rows

pub line_gathered : (text table : List ℕ) (all : List Column) (at : ℕ) (row : List Value) (rows : List (List Value)) → is_order all (column_names all) ≡ true → name_of text (token_at (name_at at) token.Quoted (quoted table)) ≡ table
    → RowStands text all (rows_at at table) row → FurtherStand text (closed_at (rows_at at table) all row + 1) all rows
    → gathered text table all (insert_units text at table all row rows) ≡ gathered_as all (row_places (rows_at at table) all row rows) (own_order (rows_at at table) all ∷ [])
line_gathered text table all at row rows order named first rest =
    let place : ℕ = rows_at at table in
    let end : KeptPiece = end_piece text (line_end_at place all row rows) in
    let behind : List (List KeptPiece) = further_units text (closed_at place all row + 1) all rows ++ (end ∷ []) ∷ [] in
    ap (λ g. fold (step text table all) g (row_pieces text place all row ∷ behind)) (head_gathered text table all at order named)
    ∙ ap (λ g. fold (step text table all) g behind) (row_gathered text table all all (ordered all) place row refl (no_fault text all place row first))
    ∙ further_gathered text table all all (closed_at place all row + 1) rows (place ∷ []) (own_order place all ∷ []) end rest refl
