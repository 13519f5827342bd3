-- The lines of a transaction are read as they were written.
use Rattle.std.proofs.Common.{◌≡◌, ℕ, ◌≤◌, Bool, true, false, not, ◌&&◌, ◌||◌, List, [], ◌∷◌, ◌++◌, length, codes, Some, None, is_none, refl, ap, ◌∙◌, append_assoc, arith, leb, ◌==◌}
use Rattle.std.specs.List.{list_all, list_any}
use Rattle.std.proofs.lemmas.Bool.{and_parts, ne_eqb}
use Rattle.dm_list.specs.Answer.{first_refusal}
use Rattle.dm_value.specs.declared.value.Value.{Value}
use Rattle.dm_schema.specs.declared.column.Column.{Column}
use Rattle.dm_schema.specs.declared.fault.SchemaFault.TheVariants as fault
use Rattle.dm_schema.specs.declared.table_name.TableName.{TableName}
use Rattle.dm_schema.specs.Kinds.{is_column, is_key}
use Rattle.dm_schema.specs.Layout.{Layout}
use Rattle.dm_schema.specs.Names.{Text}
use Rattle.dm_schema.specs.Schemas.{all_columns, names_repeat, is_formed, refusals, column_repeats, key_repeats, some_key_repeats_names, has_nullable, is_unfit_default}
use Rattle.dm_text.specs.Names.{name_list, table_name_text, with_commas}
use Rattle.dm_text.specs.Values.{tuple_text}
use Rattle.dm_reread.specs.Parts.{may_follow}
use Rattle.dm_table.specs.declared.op.RowOp.{RowOp}
use Rattle.dm_table.specs.declared.op.RowOp.TheVariants as op_of
use Rattle.dm_stmt.specs.Records.{is_empty, fit_columns, names_row, is_key_row, is_op}
use Rattle.dm_stmt.specs.Texts.{separated, columns_named, equations, where_text, op_text}
use Rattle.dm_stmt_read.specs.Reading.{are_typed, is_typed_op}
use Rattle.dm_stmt_read.specs.declared.ops.Verb.{Verb}
use Rattle.dm_stmt_read.specs.declared.ops.Verb.TheVariants as verb_of
use Rattle.dm_stmt_read.specs.Readers.{accept}
use Rattle.dm_stmt_read.specs.Lines.{read_verb, head, row, conditions, key, update, delete, op_by, op, next_op}
use Rattle.dm_stmt_read.proofs.Taking.{takes_word, passes_word, Takes}
use Rattle.dm_stmt_read.proofs.ColumnTexts.{takes_names, takes_table_name}
use Rattle.dm_stmt_read.proofs.LineTexts.{AreNamed, are_named, marked, takes_cells, tuple_marked, takes_conditions, where_stated, takes_assignments}

-- What a formed schema has.

pub record IsWhole (layout : Layout) : Type 0 where
  pub columns : list_all is_column layout.columns ≡ true
  pub keys : list_all is_key layout.uniques ≡ true
  pub fit : not (list_any is_unfit_default layout.columns) ≡ true
  pub some : not (length layout.primary == 0) ≡ true
  pub named : all_columns layout.columns layout.primary ≡ true

no_refusal : (a b d e f : Bool) → is_none (first_refusal ((a, fault.Duplicate) ∷ (b, fault.NoPrimary) ∷ (d, fault.UnknownColumn) ∷ (e, fault.NullablePrimary) ∷ (f, fault.DefaultUnfit) ∷ [])) ≡ true → (not b ≡ true) × (not d ≡ true) × (not f ≡ true)
no_refusal true b d e f h = absurd cc
no_refusal false true d e f h = absurd cc
no_refusal false false true e f h = absurd cc
no_refusal false false false true f h = absurd cc
no_refusal false false false false true h = absurd cc
no_refusal false false false false false h = (refl, refl, refl)

twice : (b : Bool) → not (not b) ≡ true → b ≡ true
twice true h = refl
twice false h = h

pub is_whole : (layout : Layout) → is_formed layout ≡ true → IsWhole layout
is_whole layout formed =
    let cs = layout.columns in
    let ps = layout.primary in
    let us = layout.uniques in
    let last = and_parts (list_all is_column cs && list_all is_key us && leb (length us) 16) (is_none (first_refusal (refusals cs ps us))) formed in
    let parts = and_parts (list_all is_column cs && list_all is_key us) (leb (length us) 16) last.0 in
    let none = no_refusal (column_repeats cs || key_repeats us || names_repeat ps || some_key_repeats_names us) (length ps == 0) (not (all_columns cs ps && list_all (λ k. all_columns cs k.columns) us)) (has_nullable cs ps) (list_any is_unfit_default cs) last.1 in
    record {
      columns = (and_parts (list_all is_column cs) (list_all is_key us) parts.0).0;
      keys = (and_parts (list_all is_column cs) (list_all is_key us) parts.0).1;
      fit = none.2;
      some = none.0;
      named = (and_parts (all_columns cs ps) (list_all (λ k. all_columns cs k.columns) us) (twice (all_columns cs ps && list_all (λ k. all_columns cs k.columns) us) none.1)).0;
    }

-- Verbs.

-- the words of a verb
abbrev pub words : Verb → List ℕ
words verb_of.Insert = codes "INSERT INTO "
words verb_of.Replace = codes "REPLACE INTO "
words verb_of.Update = codes "UPDATE "
words verb_of.Delete = codes "DELETE FROM "

takes_verb : (verb : Verb) (left : List ℕ) → read_verb (words verb ++ left) ≡ Some (Some verb, left)
unfolding read_verb accept
takes_verb verb_of.Insert left = refl
takes_verb verb_of.Replace left = refl
takes_verb verb_of.Update left = refl
takes_verb verb_of.Delete left = refl

pub takes_head : (verb : Verb) (t : TableName) (left : List ℕ) → head (words verb ++ (table_name_text t ++ (32 ∷ left))) ≡ Some ((verb, t), 32 ∷ left)
unfolding head
takes_head verb t left = rw (takes_verb verb (table_name_text t ++ (32 ∷ left)), takes_table_name t (32 ∷ left) refl) refl

-- Rows.

takes_row : (columns : List Column) (ns : List Text) (cs : List Column) (values : List Value) (left : List ℕ) → not (length ns == 0) ≡ true → AreNamed columns ns cs → fit_columns cs values ≡ true → are_typed values ≡ true
    → row columns (32 ∷ (name_list ns ++ (codes " VALUES " ++ (tuple_text cs values ++ (codes ";\n" ++ left))))) ≡ Some ((ns, values), left)
unfolding row
takes_row columns [] cs values left some named fit typed = absurd cc
takes_row columns (n ∷ ns) [] values left some named fit typed = absurd named
takes_row columns (n ∷ ns) (c ∷ cs) [] left some named fit typed = absurd cc
takes_row columns (n ∷ ns) (c ∷ cs) (v ∷ vs) left some named fit typed =
    let tail : List ℕ = marked (codes " VALUES (") (c ∷ cs) (v ∷ vs) ++ (codes ");\n" ++ left) in
    ap (λ xs. row columns (32 ∷ (name_list (n ∷ ns) ++ xs))) (tuple_marked c cs v vs (codes ";\n" ++ left))
    ∙ (rw (takes_word (codes " ") (name_list (n ∷ ns) ++ tail), takes_names (n ∷ ns) tail some, takes_cells columns (codes " VALUES (") (n ∷ ns) (c ∷ cs) (v ∷ vs) (codes ");\n" ++ left) named fit typed refl, takes_word (codes ");\n") left) refl)

-- Keys.

some_named : (columns : List Column) (ns : List Text) (cs : List Column) → not (length ns == 0) ≡ true → AreNamed columns ns cs → not (length cs == 0) ≡ true
some_named columns [] cs some named = absurd cc
some_named columns (n ∷ ns) [] some named = absurd named
some_named columns (n ∷ ns) (c ∷ cs) some named = ap not (ne_eqb (length (c ∷ cs)) 0 (λ none. omega (arith, none)))

takes_key : (layout : Layout) (values : List Value) (left : List ℕ) → IsWhole layout → is_key_row layout values ≡ true → are_typed values ≡ true → may_follow left ≡ true → key layout (where_text layout values ++ left) ≡ Some (values, left)
unfolding key
takes_key layout values left formed fit typed follows =
    let cs = columns_named layout.columns layout.primary in
    let named = are_named layout.columns layout.primary formed.columns formed.named in
    ap (λ xs. conditions layout.columns (codes " WHERE ") layout.primary (xs ++ left)) (where_stated cs values (some_named layout.columns layout.primary cs formed.some named) fit)
    ∙ takes_conditions layout.columns (codes " WHERE ") layout.primary cs values left named fit typed follows

-- Lines, behind their tables.

pub verb_for : RowOp → Verb
verb_for (op_of.Insert names values) = verb_of.Insert
verb_for (op_of.Replace names values) = verb_of.Replace
verb_for (op_of.Update names key values) = verb_of.Update
verb_for (op_of.Delete key) = verb_of.Delete
verb_for (op_of.Erase key) = verb_of.Delete

-- what stands behind a line's table and a blank, before a text
pub rest_of : Layout → RowOp → List ℕ → List ℕ
rest_of layout (op_of.Insert names values) left = name_list names ++ (codes " VALUES " ++ (tuple_text (columns_named layout.columns names) values ++ (codes ";\n" ++ left)))
rest_of layout (op_of.Replace names values) left = name_list names ++ (codes " VALUES " ++ (tuple_text (columns_named layout.columns names) values ++ (codes ";\n" ++ left)))
rest_of layout (op_of.Update names key values) left = codes "SET " ++ (with_commas (equations (columns_named layout.columns names) values) ++ (where_text layout key ++ (codes " LIMIT 1;\n" ++ left)))
rest_of layout (op_of.Delete key) left = codes "WHERE " ++ (separated (codes " AND ") (equations (columns_named layout.columns layout.primary) key) ++ (codes " LIMIT 1;\n" ++ left))
rest_of layout (op_of.Erase key) left = codes "WHERE " ++ (separated (codes " AND ") (equations (columns_named layout.columns layout.primary) key) ++ (codes ";\n" ++ left))

five : (a b c d e : List ℕ) → (((a ++ b) ++ c) ++ d) ++ e ≡ a ++ (b ++ (c ++ (d ++ e)))
five a b c d e = append_assoc ((a ++ b) ++ c) d e ∙ append_assoc (a ++ b) c (d ++ e) ∙ append_assoc a b (c ++ (d ++ e))

seven : (a b c d e f g : List ℕ) → (((((a ++ b) ++ c) ++ d) ++ e) ++ f) ++ g ≡ a ++ (b ++ (c ++ (d ++ (e ++ (f ++ g)))))
seven a b c d e f g = append_assoc ((((a ++ b) ++ c) ++ d) ++ e) f g ∙ append_assoc (((a ++ b) ++ c) ++ d) e (f ++ g) ∙ five a b c d (e ++ (f ++ g))

op_shape : (t : TableName) (layout : Layout) (o : RowOp) (left : List ℕ) → op_text t layout o ++ left ≡ words (verb_for o) ++ (table_name_text t ++ (32 ∷ rest_of layout o left))
unfolding verb_for rest_of
op_shape t layout (op_of.Insert names values) left = seven (codes "INSERT INTO ") (table_name_text t) (32 ∷ name_list names) (codes " VALUES ") (tuple_text (columns_named layout.columns names) values) (codes ";\n") left
op_shape t layout (op_of.Replace names values) left = seven (codes "REPLACE INTO ") (table_name_text t) (32 ∷ name_list names) (codes " VALUES ") (tuple_text (columns_named layout.columns names) values) (codes ";\n") left
op_shape t layout (op_of.Update names key values) left = seven (codes "UPDATE ") (table_name_text t) (codes " SET ") (with_commas (equations (columns_named layout.columns names) values)) (where_text layout key) (codes " LIMIT 1;\n") left
op_shape t layout (op_of.Delete key) left = five (codes "DELETE FROM ") (table_name_text t) (where_text layout key) (codes " LIMIT 1;\n") left
op_shape t layout (op_of.Erase key) left = five (codes "DELETE FROM ") (table_name_text t) (where_text layout key) (codes ";\n") left

takes_update : (layout : Layout) (names : List Text) (values new : List Value) (left : List ℕ) → IsWhole layout → names_row layout names new ≡ true → is_key_row layout values ≡ true → are_typed values ≡ true → are_typed new ≡ true
    → update layout (codes " SET " ++ (with_commas (equations (columns_named layout.columns names) new) ++ (where_text layout values ++ (codes " LIMIT 1;\n" ++ left)))) ≡ Some (op_of.Update names values new, left)
unfolding update
takes_update layout names values new left formed fits fit typed typed_new =
    let cs = columns_named layout.columns names in
    let last = and_parts (not (is_empty names) && not (names_repeat names) && all_columns layout.columns names) (fit_columns cs new) fits in
    let parts = and_parts (not (is_empty names) && not (names_repeat names)) (all_columns layout.columns names) last.0 in
    let some = (and_parts (not (is_empty names)) (not (names_repeat names)) parts.0).0 in
    let named = are_named layout.columns names formed.columns parts.1 in
    let tail : List ℕ = codes " LIMIT 1;\n" ++ left in
    let inner : List ℕ = codes "WHERE " ++ (separated (codes " AND ") (equations (columns_named layout.columns layout.primary) values) ++ tail) in
    rw (
      takes_word (codes " SET ") (with_commas (equations cs new) ++ (where_text layout values ++ tail)),
      takes_assignments layout.columns names cs new inner some named last.1 typed_new,
      takes_key layout values tail formed fit typed refl,
      takes_word (codes " LIMIT 1;\n") left,
    ) refl

takes_delete : (layout : Layout) (values : List Value) (left : List ℕ) → IsWhole layout → is_key_row layout values ≡ true → are_typed values ≡ true → delete layout (where_text layout values ++ (codes " LIMIT 1;\n" ++ left)) ≡ Some (op_of.Delete values, left)
unfolding delete
takes_delete layout values left formed fit typed =
    rw (takes_key layout values (codes " LIMIT 1;\n" ++ left) formed fit typed refl, takes_word (codes " LIMIT 1;\n") left) refl

takes_erase : (layout : Layout) (values : List Value) (left : List ℕ) → IsWhole layout → is_key_row layout values ≡ true → are_typed values ≡ true → delete layout (where_text layout values ++ (codes ";\n" ++ left)) ≡ Some (op_of.Erase values, left)
unfolding delete
takes_erase layout values left formed fit typed =
    rw (takes_key layout values (codes ";\n" ++ left) formed fit typed refl, passes_word (codes " LIMIT 1;\n") (codes ";\n" ++ left) refl, takes_word (codes ";\n") left) refl

-- a new row, with its columns of the schema
record IsRow (layout : Layout) (names : List Text) (values : List Value) : Type 0 where
  some : not (length names == 0) ≡ true
  named : AreNamed layout.columns names (columns_named layout.columns names)
  fit : fit_columns (columns_named layout.columns names) values ≡ true

is_row : (layout : Layout) (names : List Text) (values : List Value) → IsWhole layout → names_row layout names values ≡ true → IsRow layout names values
is_row layout names values formed fits =
    let last = and_parts (not (is_empty names) && not (names_repeat names) && all_columns layout.columns names) (fit_columns (columns_named layout.columns names) values) fits in
    let parts = and_parts (not (is_empty names) && not (names_repeat names)) (all_columns layout.columns names) last.0 in
    record { some = (and_parts (not (is_empty names)) (not (names_repeat names)) parts.0).0; named = are_named layout.columns names formed.columns parts.1; fit = last.1 }

takes_rest : (layout : Layout) (o : RowOp) (left : List ℕ) → IsWhole layout → is_op layout o ≡ true → is_typed_op o ≡ true → op_by layout (verb_for o) (32 ∷ rest_of layout o left) ≡ Some (o, left)
unfolding verb_for rest_of op_by
takes_rest layout (op_of.Insert names values) left formed is typed =
    let r = is_row layout names values formed is in
    rw (takes_row layout.columns names (columns_named layout.columns names) values left (r.some) (r.named) (r.fit) typed) refl
takes_rest layout (op_of.Replace names values) left formed is typed =
    let r = is_row layout names values formed is in
    rw (takes_row layout.columns names (columns_named layout.columns names) values left (r.some) (r.named) (r.fit) typed) refl
takes_rest layout (op_of.Update names values new) left formed is typed =
    let parts = and_parts (names_row layout names new) (is_key_row layout values) is in
    let types = and_parts (are_typed values) (are_typed new) typed in
    takes_update layout names values new left formed parts.0 parts.1 types.0 types.1
takes_rest layout (op_of.Delete values) left formed is typed = takes_delete layout values left formed is typed
takes_rest layout (op_of.Erase values) left formed is typed = takes_erase layout values left formed is typed

pub op_head : (t : TableName) (layout : Layout) (o : RowOp) (left : List ℕ) → head (op_text t layout o ++ left) ≡ Some ((verb_for o, t), 32 ∷ rest_of layout o left)
op_head t layout o left = ap head (op_shape t layout o left) ∙ takes_head (verb_for o) t (rest_of layout o left)

takes_op : (t : TableName) (layout : Layout) (o : RowOp) (left : List ℕ) → IsWhole layout → is_op layout o ≡ true → is_typed_op o ≡ true → op layout (op_text t layout o ++ left) ≡ Some (o, left)
unfolding op
takes_op t layout o left formed is typed = rw (op_head t layout o left) (takes_rest layout o left formed is typed)

-- no line begins as the end does
no_end : (t : TableName) (layout : Layout) (o : RowOp) (left : List ℕ) → accept (codes "COMMIT;\n") (op_text t layout o ++ left) ≡ Some (false, op_text t layout o ++ left)
unfolding accept
no_end t layout (op_of.Insert names values) left = refl
no_end t layout (op_of.Replace names values) left = refl
no_end t layout (op_of.Update names key values) left = refl
no_end t layout (op_of.Delete key) left = refl
no_end t layout (op_of.Erase key) left = refl

line_some : (t : TableName) (layout : Layout) (o : RowOp) → 1 ≤ length (op_text t layout o)
line_some t layout (op_of.Insert names values) = omega arith
line_some t layout (op_of.Replace names values) = omega arith
line_some t layout (op_of.Update names key values) = omega arith
line_some t layout (op_of.Delete key) = omega arith
line_some t layout (op_of.Erase key) = omega arith

-- an operation that is read as it was written
abbrev pub is_good_op : Layout → RowOp → Bool
is_good_op layout o = is_op layout o && is_typed_op o

takes_next_op : (t : TableName) (layout : Layout) (o : RowOp) (left : List ℕ) → IsWhole layout → is_good_op layout o ≡ true → next_op layout (op_text t layout o ++ left) ≡ Some (Some o, left)
unfolding next_op
takes_next_op t layout o left formed good =
    let parts = and_parts (is_op layout o) (is_typed_op o) good in
    rw (no_end t layout o left, takes_op t layout o left formed parts.0 parts.1) refl

no_op : (layout : Layout) (left : List ℕ) → next_op layout (codes "COMMIT;\n" ++ left) ≡ Some (None, left)
unfolding next_op
no_op layout left = rw (takes_word (codes "COMMIT;\n") left) refl

pub ops_taken : (t : TableName) (layout : Layout) (left : List ℕ) → IsWhole layout → Takes (next_op layout) (op_text t layout) (is_good_op layout) (λ rest. Unit {0}) (codes "COMMIT;\n" ++ left) left
ops_taken t layout left formed = record { ends = no_op layout left; end_follows = tt; piece_follows = λ o rest. tt; some = line_some t layout; takes = λ o rest good follows. takes_next_op t layout o rest formed good }
