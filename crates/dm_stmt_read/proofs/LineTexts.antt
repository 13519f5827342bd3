-- Operations are read as they were written.
use Rattle.std.proofs.Common.{◌≡◌, ℕ, zero, suc, ◌<◌, ◌≤◌, Bool, true, false, not, ◌&&◌, ◌||◌, cond, List, [], ◌∷◌, ◌++◌, map, length, codes, Some, None, refl, sym, ap, ◌∙◌, subst, append_assoc, arith, ◌==◌}
use Rattle.std.specs.List.{flat_map, cons_option, zip, list_all, list_any}
use Rattle.std.proofs.lemmas.Bool.{and_parts}
use Rattle.std.proofs.lemmas.List.{length-append}
use Rattle.dm_value.specs.declared.value.Value.{Value}
use Rattle.dm_schema.specs.declared.column.Column.{Column}
use Rattle.dm_schema.specs.Fits.{fits}
use Rattle.dm_schema.specs.Kinds.{is_kind, is_rule, is_folded, is_column}
use Rattle.dm_schema.specs.Names.{Text, same_name, column_at, has_column}
use Rattle.dm_schema.specs.Schemas.{all_columns}
use Rattle.dm_text.specs.Names.{quoted, behind_comma, with_commas}
use Rattle.dm_text.specs.Values.{value_text, value_texts, tuple_text}
use Rattle.dm_reread.specs.Parts.{may_follow, has_bytes}
use Rattle.dm_table.proofs.CellLaws.{equal_names}
use Rattle.dm_stmt.specs.Records.{fit_columns}
use Rattle.dm_stmt.specs.Texts.{behind, separated, columns_named, equation, equations}
use Rattle.dm_stmt_read.specs.Reading.{are_typed}
use Rattle.dm_stmt_read.specs.Readers.{and_then, just, before, many, further_pairs, each}
use Rattle.dm_stmt_read.specs.Lines.{cell, marked_cell, cells, assignment, next_assignment, assignments, condition, conditions}
use Rattle.dm_stmt_read.proofs.Taking.{takes_word, passes_word}
use Rattle.dm_stmt_read.proofs.Tokens.{takes_name, takes_value}

-- Columns by their names.

-- the columns are those of the names, and their kinds are in range
abbrev pub AreNamed : List Column → List Text → List Column → Type 0
AreNamed columns [] [] = Unit {0}
AreNamed columns [] (c ∷ cs) = ⊥
AreNamed columns (n ∷ ns) [] = ⊥
AreNamed columns (n ∷ ns) (c ∷ cs) = (column_at columns n ≡ Some c) × (is_kind c.kind ≡ true) × (c.name ≡ n) × AreNamed columns ns cs

record IsFound (columns : List Column) (n : Text) : Type 0 where
  column : Column
  is : column_at columns n ≡ Some column
  in_range : is_kind column.kind ≡ true
  named : column.name ≡ n

found : (columns : List Column) (n : Text) → list_all is_column columns ≡ true → has_column columns n ≡ true → IsFound columns n
found [] n all has = absurd cc
found (c ∷ columns) n all has = by (same_name c.name n) refl (λ more. found columns n (and_parts (is_column c) (list_all is_column columns) all).1 more) where
  by : (same : Bool) → same_name c.name n ≡ same → (has_column columns n ≡ true → IsFound columns n) → IsFound (c ∷ columns) n
  by true e later =
      let first = and_parts (is_folded c.name && is_kind c.kind) (is_rule c.default_rule) (and_parts (is_column c) (list_all is_column columns) all).0 in
      record { column = c; is = rw e refl; in_range = (and_parts (is_folded c.name) (is_kind c.kind) first.0).1; named = equal_names c.name n e }
  by false e later =
      let rest = later (sym (ap (λ (b : Bool). b || list_any (λ d. same_name d.name n) columns) e) ∙ has) in
      record { column = rest.column; is = ap (λ (b : Bool). cond b (Some c) (column_at columns n)) e ∙ rest.is; in_range = rest.in_range; named = rest.named }

pub are_named : (columns : List Column) (ns : List Text) → list_all is_column columns ≡ true → all_columns columns ns ≡ true → AreNamed columns ns (columns_named columns ns)
are_named columns [] all has = tt
are_named columns (n ∷ ns) all has =
    let parts = and_parts (has_column columns n) (all_columns columns ns) has in
    let f = found columns n all parts.0 in
    subst (λ o. AreNamed columns (n ∷ ns) (cons_option o (columns_named columns ns))) (sym f.is) (f.is, f.in_range, f.named, are_named columns ns all parts.1)

-- Values of columns.

takes_cell : (columns : List Column) (n : Text) (c : Column) (v : Value) (left : List ℕ) → column_at columns n ≡ Some c → is_kind c.kind ≡ true → fits v c ≡ true → has_bytes v ≡ true → may_follow left ≡ true
    → cell columns n (value_text c.kind v ++ left) ≡ Some (v, left)
unfolding cell
takes_cell columns n c v left is range fit bytes follows = rw (is) (takes_value c.kind c.nullable v left range fit bytes follows)

-- values, the first behind one mark and the others behind a comma
abbrev pub marked : List ℕ → List Column → List Value → List ℕ
marked mark [] row = []
marked mark (c ∷ cs) [] = []
marked mark (c ∷ cs) (v ∷ vs) = mark ++ (value_text c.kind v ++ marked (codes ",") cs vs)

marked_follows : (cs : List Column) (vs : List Value) (left : List ℕ) → may_follow left ≡ true → may_follow (marked (codes ",") cs vs ++ left) ≡ true
marked_follows [] vs left follows = follows
marked_follows (c ∷ cs) [] left follows = follows
marked_follows (c ∷ cs) (v ∷ vs) left follows = refl

three : (a b c d : List ℕ) → (a ++ (b ++ c)) ++ d ≡ a ++ (b ++ (c ++ d))
three a b c d = append_assoc a (b ++ c) d ∙ ap (λ xs. a ++ xs) (append_assoc b c d)

pub takes_cells : (columns : List Column) (mark : List ℕ) (ns : List Text) (cs : List Column) (row : List Value) (left : List ℕ) → AreNamed columns ns cs → fit_columns cs row ≡ true → are_typed row ≡ true → may_follow left ≡ true
    → cells columns mark ns (marked mark cs row ++ left) ≡ Some (row, left)
unfolding each marked_cell
takes_cells columns mark [] [] [] left named fit typed follows = refl
takes_cells columns mark [] [] (v ∷ vs) left named fit typed follows = absurd cc
takes_cells columns mark [] (c ∷ cs) row left named fit typed follows = absurd named
takes_cells columns mark (n ∷ ns) [] row left named fit typed follows = absurd named
takes_cells columns mark (n ∷ ns) (c ∷ cs) [] left named fit typed follows = absurd cc
takes_cells columns mark (n ∷ ns) (c ∷ cs) (v ∷ vs) left named fit typed follows =
    let fit_parts = and_parts (fits v c) (fit_columns cs vs) fit in
    let typed_parts = and_parts (has_bytes v) (are_typed vs) typed in
    let rest : List ℕ = marked (codes ",") cs vs ++ left in
    ap (cells columns mark (n ∷ ns)) (three mark (value_text c.kind v) (marked (codes ",") cs vs) left)
    ∙ (rw (
      takes_word mark (value_text c.kind v ++ rest),
      takes_cell columns n c v rest named.0 named.1 fit_parts.0 typed_parts.0 (marked_follows cs vs left follows),
      takes_cells columns (codes ",") ns cs vs left named.3 fit_parts.1 typed_parts.1 follows,
    ) refl)

commas_marked : (cs : List Column) (vs : List Value) → flat_map behind_comma (value_texts cs vs) ≡ marked (codes ",") cs vs
commas_marked [] vs = refl
commas_marked (c ∷ cs) [] = refl
commas_marked (c ∷ cs) (v ∷ vs) = ap (λ xs. 44 ∷ (value_text c.kind v ++ xs)) (commas_marked cs vs)

-- a tuple, whose bracket belongs to what stands before it
pub tuple_marked : (c : Column) (cs : List Column) (v : Value) (vs : List Value) (left : List ℕ) → codes " VALUES " ++ (tuple_text (c ∷ cs) (v ∷ vs) ++ left) ≡ marked (codes " VALUES (") (c ∷ cs) (v ∷ vs) ++ (41 ∷ left)
tuple_marked c cs v vs left =
    ap (λ xs. codes " VALUES (" ++ xs)
    (append_assoc (value_text c.kind v ++ flat_map behind_comma (value_texts cs vs)) (41 ∷ []) left ∙ ap (λ xs. (value_text c.kind v ++ xs) ++ (41 ∷ left)) (commas_marked cs vs))

-- Conditions.

-- conditions, the first behind one mark and the others behind another
abbrev pub stated : List ℕ → List Column → List Value → List ℕ
stated mark [] row = []
stated mark (c ∷ cs) [] = []
stated mark (c ∷ cs) (v ∷ vs) = mark ++ (equation c v ++ stated (codes " AND ") cs vs)

stated_follows : (cs : List Column) (vs : List Value) (left : List ℕ) → may_follow left ≡ true → may_follow (stated (codes " AND ") cs vs ++ left) ≡ true
stated_follows [] vs left follows = follows
stated_follows (c ∷ cs) [] left follows = follows
stated_follows (c ∷ cs) (v ∷ vs) left follows = refl

takes_condition : (columns : List Column) (mark : List ℕ) (n : Text) (c : Column) (v : Value) (left : List ℕ) → column_at columns n ≡ Some c → is_kind c.kind ≡ true → fits v c ≡ true → has_bytes v ≡ true → may_follow left ≡ true
    → condition columns mark n (mark ++ (equation c v ++ left)) ≡ Some (v, left)
unfolding condition
takes_condition columns mark n c v left is range fit bytes follows =
    ap (λ xs. condition columns mark n (mark ++ xs)) (append_assoc (quoted c.name) (61 ∷ value_text c.kind v) left)
    ∙ (rw (takes_word mark (quoted c.name ++ (61 ∷ (value_text c.kind v ++ left))), takes_name c.name (61 ∷ (value_text c.kind v ++ left)) refl, takes_word (codes "=") (value_text c.kind v ++ left)) (takes_cell columns n c v left is range fit bytes follows))

pub takes_conditions : (columns : List Column) (mark : List ℕ) (ns : List Text) (cs : List Column) (row : List Value) (left : List ℕ) → AreNamed columns ns cs → fit_columns cs row ≡ true → are_typed row ≡ true → may_follow left ≡ true
    → conditions columns mark ns (stated mark cs row ++ left) ≡ Some (row, left)
unfolding each
takes_conditions columns mark [] [] [] left named fit typed follows = refl
takes_conditions columns mark [] [] (v ∷ vs) left named fit typed follows = absurd cc
takes_conditions columns mark [] (c ∷ cs) row left named fit typed follows = absurd named
takes_conditions columns mark (n ∷ ns) [] row left named fit typed follows = absurd named
takes_conditions columns mark (n ∷ ns) (c ∷ cs) [] left named fit typed follows = absurd cc
takes_conditions columns mark (n ∷ ns) (c ∷ cs) (v ∷ vs) left named fit typed follows =
    let fit_parts = and_parts (fits v c) (fit_columns cs vs) fit in
    let typed_parts = and_parts (has_bytes v) (are_typed vs) typed in
    let rest : List ℕ = stated (codes " AND ") cs vs ++ left in
    ap (conditions columns mark (n ∷ ns)) (three mark (equation c v) (stated (codes " AND ") cs vs) left)
    ∙ (rw (
      takes_condition columns mark n c v rest named.0 named.1 fit_parts.0 typed_parts.0 (stated_follows cs vs left follows),
      takes_conditions columns (codes " AND ") ns cs vs left named.3 fit_parts.1 typed_parts.1 follows,
    ) refl)

ands_stated : (cs : List Column) (vs : List Value) → flat_map (behind (codes " AND ")) (equations cs vs) ≡ stated (codes " AND ") cs vs
ands_stated [] vs = refl
ands_stated (c ∷ cs) [] = refl
ands_stated (c ∷ cs) (v ∷ vs) = ap (λ xs. codes " AND " ++ (equation c v ++ xs)) (ands_stated cs vs)

pub where_stated : (cs : List Column) (row : List Value) → not (length cs == 0) ≡ true → fit_columns cs row ≡ true → codes " WHERE " ++ separated (codes " AND ") (equations cs row) ≡ stated (codes " WHERE ") cs row
where_stated [] row some fit = absurd cc
where_stated (c ∷ cs) [] some fit = absurd cc
where_stated (c ∷ cs) (v ∷ vs) some fit = ap (λ xs. codes " WHERE " ++ (equation c v ++ xs)) (ands_stated cs vs)

-- Assignments.

takes_assignment : (columns : List Column) (n : Text) (c : Column) (v : Value) (left : List ℕ) → column_at columns n ≡ Some c → is_kind c.kind ≡ true → c.name ≡ n → fits v c ≡ true → has_bytes v ≡ true → may_follow left ≡ true
    → assignment columns (equation c v ++ left) ≡ Some ((n, v), left)
unfolding assignment
takes_assignment columns n c v left is range named fit bytes follows =
    ap (assignment columns) (append_assoc (quoted c.name) (61 ∷ value_text c.kind v) left ∙ ap (λ xs. quoted xs ++ (61 ∷ (value_text c.kind v ++ left))) named)
    ∙ (rw (takes_name n (61 ∷ (value_text c.kind v ++ left)) refl, takes_word (codes "=") (value_text c.kind v ++ left), takes_cell columns n c v left is range fit bytes follows) refl)

takes_next : (columns : List Column) (n : Text) (c : Column) (v : Value) (left : List ℕ) → column_at columns n ≡ Some c → is_kind c.kind ≡ true → c.name ≡ n → fits v c ≡ true → has_bytes v ≡ true → may_follow left ≡ true
    → next_assignment columns (44 ∷ (equation c v ++ left)) ≡ Some (Some (n, v), left)
unfolding next_assignment
takes_next columns n c v left is range named fit bytes follows = rw (takes_word (codes ",") (equation c v ++ left), takes_assignment columns n c v left is range named fit bytes follows) refl

no_next : (columns : List Column) (left : List ℕ) → next_assignment columns (32 ∷ left) ≡ Some (None, 32 ∷ left)
unfolding next_assignment
no_next columns left = rw (passes_word (codes ",") (32 ∷ left) refl) refl

-- what stands behind an assignment may follow it
assigned_follows : (cs : List Column) (vs : List Value) (left : List ℕ) → may_follow (flat_map behind_comma (equations cs vs) ++ (32 ∷ left)) ≡ true
assigned_follows [] vs left = refl
assigned_follows (c ∷ cs) [] left = refl
assigned_follows (c ∷ cs) (v ∷ vs) left = refl

takes_many_next : (columns : List Column) (ns : List Text) (cs : List Column) (row : List Value) (left : List ℕ) → AreNamed columns ns cs → fit_columns cs row ≡ true → are_typed row ≡ true → (most : ℕ) → length row < most
    → many (next_assignment columns) most (flat_map behind_comma (equations cs row) ++ (32 ∷ left)) ≡ Some (zip ns row, 32 ∷ left)
unfolding many
takes_many_next columns ns cs row left named fit typed zero room = absurd (omega (arith, room))
takes_many_next columns [] [] [] left named fit typed (suc most) room = rw (no_next columns left) refl
takes_many_next columns [] [] (v ∷ vs) left named fit typed (suc most) room = absurd cc
takes_many_next columns [] (c ∷ cs) row left named fit typed (suc most) room = absurd named
takes_many_next columns (n ∷ ns) [] row left named fit typed (suc most) room = absurd named
takes_many_next columns (n ∷ ns) (c ∷ cs) [] left named fit typed (suc most) room = absurd cc
takes_many_next columns (n ∷ ns) (c ∷ cs) (v ∷ vs) left named fit typed (suc most) room =
    let fit_parts = and_parts (fits v c) (fit_columns cs vs) fit in
    let typed_parts = and_parts (has_bytes v) (are_typed vs) typed in
    let rest : List ℕ = flat_map behind_comma (equations cs vs) ++ (32 ∷ left) in
    let shape : (44 ∷ equation c v ++ flat_map behind_comma (equations cs vs)) ++ (32 ∷ left) ≡ 44 ∷ (equation c v ++ rest) = append_assoc (44 ∷ equation c v) (flat_map behind_comma (equations cs vs)) (32 ∷ left) in
    let first = ap (next_assignment columns) shape ∙ takes_next columns n c v rest named.0 named.1 named.2 fit_parts.0 typed_parts.0 (assigned_follows cs vs left) in
    ap (λ o. and_then o (before (many (next_assignment columns) most))) first
    ∙ ap (λ o. and_then o (λ ps. just ((n, v) ∷ ps))) (takes_many_next columns ns cs vs left named.3 fit_parts.1 typed_parts.1 most (omega (arith, room)))

enough : (cs : List Column) (row : List Value) → fit_columns cs row ≡ true → length row ≤ length (flat_map behind_comma (equations cs row))
enough [] [] fit = omega arith
enough [] (v ∷ vs) fit = absurd cc
enough (c ∷ cs) [] fit = absurd cc
enough (c ∷ cs) (v ∷ vs) fit =
    let rest = enough cs vs (and_parts (fits v c) (fit_columns cs vs) fit).1 in
    let both = length-append (44 ∷ equation c v) (flat_map behind_comma (equations cs vs)) in
    omega (arith, rest, both)

zip_names : (columns : List Column) (ns : List Text) (cs : List Column) (row : List Value) → AreNamed columns ns cs → fit_columns cs row ≡ true → map (λ (p : Text × Value). p.0) (zip ns row) ≡ ns
zip_names columns [] [] row named fit = refl
zip_names columns [] (c ∷ cs) row named fit = absurd named
zip_names columns (n ∷ ns) [] row named fit = absurd named
zip_names columns (n ∷ ns) (c ∷ cs) [] named fit = absurd cc
zip_names columns (n ∷ ns) (c ∷ cs) (v ∷ vs) named fit = ap (λ xs. n ∷ xs) (zip_names columns ns cs vs named.3 (and_parts (fits v c) (fit_columns cs vs) fit).1)

zip_values : (columns : List Column) (ns : List Text) (cs : List Column) (row : List Value) → AreNamed columns ns cs → fit_columns cs row ≡ true → map (λ (p : Text × Value). p.1) (zip ns row) ≡ row
zip_values columns [] [] [] named fit = refl
zip_values columns [] [] (v ∷ vs) named fit = absurd cc
zip_values columns [] (c ∷ cs) row named fit = absurd named
zip_values columns (n ∷ ns) [] row named fit = absurd named
zip_values columns (n ∷ ns) (c ∷ cs) [] named fit = absurd cc
zip_values columns (n ∷ ns) (c ∷ cs) (v ∷ vs) named fit = ap (λ xs. v ∷ xs) (zip_values columns ns cs vs named.3 (and_parts (fits v c) (fit_columns cs vs) fit).1)

pub takes_assignments : (columns : List Column) (ns : List Text) (cs : List Column) (row : List Value) (left : List ℕ) → not (length ns == 0) ≡ true → AreNamed columns ns cs → fit_columns cs row ≡ true → are_typed row ≡ true
    → assignments columns (with_commas (equations cs row) ++ (32 ∷ left)) ≡ Some ((ns, row), 32 ∷ left)
unfolding assignments further_pairs
takes_assignments columns [] cs row left some named fit typed = absurd cc
takes_assignments columns (n ∷ ns) [] row left some named fit typed = absurd named
takes_assignments columns (n ∷ ns) (c ∷ cs) [] left some named fit typed = absurd cc
takes_assignments columns (n ∷ ns) (c ∷ cs) (v ∷ vs) left some named fit typed =
    let fit_parts = and_parts (fits v c) (fit_columns cs vs) fit in
    let typed_parts = and_parts (has_bytes v) (are_typed vs) typed in
    let rest : List ℕ = flat_map behind_comma (equations cs vs) ++ (32 ∷ left) in
    let few = enough cs vs fit_parts.1 in
    let both = length-append (flat_map behind_comma (equations cs vs)) (32 ∷ left) in
    let all = takes_many_next columns ns cs vs left named.3 fit_parts.1 typed_parts.1 (length rest) (omega (arith, few, both)) in
    ap (assignments columns) (append_assoc (equation c v) (flat_map behind_comma (equations cs vs)) (32 ∷ left))
    ∙ (rw (takes_assignment columns n c v rest named.0 named.1 named.2 fit_parts.0 typed_parts.0 (assigned_follows cs vs left), all) refl)
    ∙ (λ i. Some ((n ∷ zip_names columns ns cs vs named.3 fit_parts.1 i, v ∷ zip_values columns ns cs vs named.3 fit_parts.1 i), 32 ∷ left))
