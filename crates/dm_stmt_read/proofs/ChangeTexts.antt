-- Tables and alterations are read as they were written.
use Rattle.std.proofs.Common.{◌≡◌, ℕ, Bool, true, false, not, ◌&&◌, ◌||◌, ◌⊎◌, inl, inr, List, [], ◌∷◌, ◌++◌, map, codes, Some, None, refl, ap, ◌∙◌, append_assoc, arith, eqb-true, ◌==◌}
use Rattle.std.specs.List.{flat_map, list_all, list_any}
use Rattle.std.specs.Bool.{beq}
use Rattle.std.proofs.lemmas.Bool.{and_parts, and_from, or_cases}
use Rattle.dm_schema.specs.declared.change.Change.{Change}
use Rattle.dm_schema.specs.declared.change.Change.TheVariants as change_of
use Rattle.dm_schema.specs.declared.change.Spot.TheVariants as spot
use Rattle.dm_schema.specs.declared.column.Column.{Column}
use Rattle.dm_schema.specs.declared.column.UniqueKey.{UniqueKey}
use Rattle.dm_schema.specs.declared.table_name.TableName.{TableName}
use Rattle.dm_schema.specs.Kinds.{is_column, is_key}
use Rattle.dm_schema.specs.Layout.{Layout}
use Rattle.dm_schema.specs.Schemas.{is_formed, is_unfit_default}
use Rattle.dm_text.specs.Names.{quoted, name_list, table_name_text}
use Rattle.dm_text.specs.Columns.{column_text, column_part, primary_part, unique_part, parts_text, create_text}
use Rattle.dm_lex.specs.Lexemes.{starts}
use Rattle.dm_stmt.specs.declared.record.Record.TheVariants as record_of
use Rattle.dm_stmt.specs.Records.{is_whole_column, is_written_change}
use Rattle.dm_stmt.specs.Texts.{behind, change_text, alter_text}
use Rattle.dm_stmt_read.specs.Reading.{is_typed_column, is_typed_change}
use Rattle.dm_stmt_read.specs.Readers.{accept}
use Rattle.dm_stmt_read.specs.Columns.{column, next_column, next_unique}
use Rattle.dm_stmt_read.specs.Columns.{layout as read_layout}
use Rattle.dm_stmt_read.specs.Lines.{key_change, change, next_change, alter, create}
use Rattle.dm_stmt_read.proofs.Taking.{takes_word, passes_word, Takes, takes_further, mapped}
use Rattle.dm_stmt_read.proofs.Tokens.{takes_name}
use Rattle.dm_stmt_read.proofs.ColumnTexts.{is_good, EndsColumn, ends_column, column_ends, takes_names, takes_table_name, takes_column, takes_unique, columns_taken, uniques_taken, formed_is_joined}
use Rattle.dm_stmt_read.proofs.OpTexts.{is_whole}

-- Tables.

-- the columns of a formed schema whose numbers are those of their types
good_columns : (columns : List Column) → list_all is_column columns ≡ true → not (list_any is_unfit_default columns) ≡ true → list_all is_typed_column columns ≡ true → list_all is_good columns ≡ true
good_columns [] all fit typed = refl
good_columns (c ∷ columns) all fit typed =
    let alls = and_parts (is_column c) (list_all is_column columns) all in
    let types = and_parts (is_typed_column c) (list_all is_typed_column columns) typed in
    let fits = both_fit (is_unfit_default c) (list_any is_unfit_default columns) fit in
    and_from (is_good c) (list_all is_good columns)
    (and_from (is_column c && not (is_unfit_default c)) (is_typed_column c) (and_from (is_column c) (not (is_unfit_default c)) alls.0 fits.0) types.0)
    (good_columns columns alls.1 fits.1 types.1) where
      both_fit : (a b : Bool) → not (a || b) ≡ true → (not a ≡ true) × (not b ≡ true)
      both_fit true b h = absurd cc
      both_fit false b h = (refl, h)

takes_layout : (layout : Layout) (left : List ℕ) → is_formed layout ≡ true → list_all is_typed_column layout.columns ≡ true
    → read_layout (flat_map column_part layout.columns ++ (codes "PRIMARY KEY " ++ (name_list layout.primary ++ (flat_map unique_part layout.uniques ++ (codes ");\n" ++ left))))) ≡ Some (layout, codes ");\n" ++ left)
unfolding read_layout
takes_layout layout left formed typed =
    let uniques : List ℕ = flat_map unique_part layout.uniques ++ (codes ");\n" ++ left) in
    let own = is_whole layout formed in
    let good = good_columns layout.columns own.columns own.fit typed in
    rw (
      takes_further next_column column_part is_good (λ rest. Unit {0}) (codes "PRIMARY KEY " ++ (name_list layout.primary ++ uniques)) (name_list layout.primary ++ uniques) (columns_taken (name_list layout.primary ++ uniques)) (omega arith) [] layout.columns good,
      takes_names layout.primary uniques (own.some),
      takes_further next_unique unique_part is_key (λ rest. Unit {0}) (codes ");\n" ++ left) (codes ");\n" ++ left) (uniques_taken left) (omega arith) [] layout.uniques (own.keys),
      formed_is_joined layout formed,
    ) refl

four : (a b c d : List ℕ) → ((a ++ b) ++ c) ++ d ≡ a ++ (b ++ (c ++ d))
four a b c d = append_assoc (a ++ b) c d ∙ append_assoc a b (c ++ d)

pub create_shape : (t : TableName) (layout : Layout)
    → create_text (table_name_text t) layout ≡ codes "CREATE TABLE " ++ (table_name_text t ++ (codes " (" ++ (flat_map column_part layout.columns ++ (codes "PRIMARY KEY " ++ (name_list layout.primary ++ (flat_map unique_part layout.uniques ++ codes ");\n"))))))
create_shape t layout =
    append_assoc ((codes "CREATE TABLE " ++ table_name_text t) ++ codes " (") (parts_text layout) (codes ");\n")
    ∙ append_assoc (codes "CREATE TABLE " ++ table_name_text t) (codes " (") (parts_text layout ++ codes ");\n")
    ∙ append_assoc (codes "CREATE TABLE ") (table_name_text t) (codes " (" ++ (parts_text layout ++ codes ");\n"))
    ∙ ap (λ xs. codes "CREATE TABLE " ++ (table_name_text t ++ (codes " (" ++ xs))) (four (flat_map column_part layout.columns) (primary_part layout.primary) (flat_map unique_part layout.uniques) (codes ");\n"))

pub takes_create : (t : TableName) (layout : Layout) → is_formed layout ≡ true → list_all is_typed_column layout.columns ≡ true
    → create (table_name_text t ++ (codes " (" ++ (flat_map column_part layout.columns ++ (codes "PRIMARY KEY " ++ (name_list layout.primary ++ (flat_map unique_part layout.uniques ++ codes ");\n")))))) ≡ Some (record_of.Create t layout, [])
unfolding create
takes_create t layout formed typed =
    let inner : List ℕ = flat_map column_part layout.columns ++ (codes "PRIMARY KEY " ++ (name_list layout.primary ++ (flat_map unique_part layout.uniques ++ codes ");\n"))) in
    rw (takes_table_name t (codes " (" ++ inner) refl, takes_word (codes " (") inner, takes_layout layout [] formed typed, takes_word (codes ");\n") []) refl

-- Changes.

-- a change that is read as it was written
abbrev pub is_good_change : Change → Bool
is_good_change c = is_written_change c && is_typed_change c

no_backquote : (left : List ℕ) → ends_column left ≡ true → starts 96 left ≡ false
no_backquote [] ends = absurd cc
no_backquote (b ∷ left) ends = by (or_cases (b == 44) (b == 59) ends) where
  by : ((b == 44) ≡ true) ⊎ ((b == 59) ≡ true) → starts 96 (b ∷ left) ≡ false
  by (inl e) = ap (λ n. n == 96) (eqb-true b 44 e)
  by (inr e) = ap (λ n. n == 96) (eqb-true b 59 e)

same_bool : (a b : Bool) → beq a b ≡ true → b ≡ a
same_bool true true h = refl
same_bool true false h = absurd cc
same_bool false true h = absurd cc
same_bool false false h = refl

takes_key_change : (key : UniqueKey) (left : List ℕ) → is_key key ≡ true → key_change ((codes "ADD UNIQUE KEY " ++ quoted key.name ++ 32 ∷ name_list key.columns) ++ left) ≡ Some (change_of.AddUnique key true, left)
unfolding key_change
takes_key_change key left is =
    let inner : List ℕ = quoted key.name ++ (32 ∷ (name_list key.columns ++ left)) in
    ap (λ xs. key_change (codes "ADD UNIQUE KEY " ++ xs)) (append_assoc (quoted key.name) (32 ∷ name_list key.columns) left)
    ∙ (rw (takes_word (codes "ADD UNIQUE KEY ") inner, takes_unique key left is) refl)

takes_drop_key : (own left : List ℕ) → starts 96 left ≡ false → key_change (codes "DROP INDEX " ++ (quoted own ++ left)) ≡ Some (change_of.DropKey own, left)
unfolding key_change
takes_drop_key own left ends =
    rw (passes_word (codes "ADD UNIQUE KEY ") (codes "DROP INDEX " ++ (quoted own ++ left)) refl, takes_word (codes "DROP INDEX ") (quoted own ++ left), takes_name own left ends) refl

-- a change of a key begins with none of the words for columns
passes_on : (left : List ℕ) → accept (codes "ADD COLUMN ") left ≡ Some (false, left) → accept (codes "DROP COLUMN ") left ≡ Some (false, left) → accept (codes "MODIFY COLUMN ") left ≡ Some (false, left) → change left ≡ key_change left
unfolding change
passes_on left add drop modify = rw (add, drop, modify) refl

takes_add : (c : Column) (left : List ℕ) → is_good c ≡ true → EndsColumn left → change (codes "ADD COLUMN " ++ (column_text c ++ left)) ≡ Some (change_of.Add c spot.Last, left)
unfolding change
takes_add c left good ends = rw (takes_word (codes "ADD COLUMN ") (column_text c ++ left), takes_column c left good ends) refl

takes_drop : (own left : List ℕ) → starts 96 left ≡ false → change (codes "DROP COLUMN " ++ (quoted own ++ left)) ≡ Some (change_of.Drop own, left)
unfolding change
takes_drop own left ends =
    rw (passes_word (codes "ADD COLUMN ") (codes "DROP COLUMN " ++ (quoted own ++ left)) refl, takes_word (codes "DROP COLUMN ") (quoted own ++ left), takes_name own left ends) refl

takes_modify : (c : Column) (left : List ℕ) → is_good c ≡ true → EndsColumn left → change (codes "MODIFY COLUMN " ++ (column_text c ++ left)) ≡ Some (change_of.Modify c spot.Keep c.nullable, left)
unfolding change
takes_modify c left good ends =
    rw (
      passes_word (codes "ADD COLUMN ") (codes "MODIFY COLUMN " ++ (column_text c ++ left)) refl,
      passes_word (codes "DROP COLUMN ") (codes "MODIFY COLUMN " ++ (column_text c ++ left)) refl,
      takes_word (codes "MODIFY COLUMN ") (column_text c ++ left),
      takes_column c left good ends,
    ) refl

takes_change : (c : Change) (left : List ℕ) → is_written_change c ≡ true → is_typed_change c ≡ true → ends_column left ≡ true → change (change_text c ++ left) ≡ Some (c, left)
takes_change (change_of.Add column spot.Last) left is typed ends = takes_add column left (and_from (is_whole_column column) (is_typed_column column) is typed) (column_ends left ends)
takes_change (change_of.Add column spot.Keep) left is typed ends = absurd cc
takes_change (change_of.Add column spot.First) left is typed ends = absurd cc
takes_change (change_of.Add column (spot.After own)) left is typed ends = absurd cc
takes_change (change_of.Drop own) left is typed ends = takes_drop own left (no_backquote left ends)
takes_change (change_of.Modify column spot.Keep null_written) left is typed ends =
    let parts = and_parts (beq null_written column.nullable) (is_whole_column column) is in
    takes_modify column left (and_from (is_whole_column column) (is_typed_column column) parts.1 typed) (column_ends left ends)
    ∙ ap (λ b. Some (change_of.Modify column spot.Keep b, left)) (same_bool null_written column.nullable parts.0)
takes_change (change_of.Modify column spot.Last null_written) left is typed ends = absurd cc
takes_change (change_of.Modify column spot.First null_written) left is typed ends = absurd cc
takes_change (change_of.Modify column (spot.After own) null_written) left is typed ends = absurd cc
takes_change (change_of.SetDefault own text) left is typed ends = absurd cc
takes_change (change_of.AddUnique key true) left is typed ends =
    let text : List ℕ = (codes "ADD UNIQUE KEY " ++ quoted key.name ++ 32 ∷ name_list key.columns) ++ left in
    passes_on text (passes_word (codes "ADD COLUMN ") text refl) (passes_word (codes "DROP COLUMN ") text refl) (passes_word (codes "MODIFY COLUMN ") text refl) ∙ takes_key_change key left is
takes_change (change_of.AddUnique key false) left is typed ends = absurd cc
takes_change (change_of.DropKey own) left is typed ends =
    let text : List ℕ = codes "DROP INDEX " ++ (quoted own ++ left) in
    passes_on text (passes_word (codes "ADD COLUMN ") text refl) (passes_word (codes "DROP COLUMN ") text refl) (passes_word (codes "MODIFY COLUMN ") text refl) ∙ takes_drop_key own left (no_backquote left ends)
takes_change (change_of.RenameKey own) left is typed ends = absurd cc
takes_change (change_of.Refused cause) left is typed ends = absurd cc
takes_change change_of.NoEffect left is typed ends = absurd cc

takes_next_change : (c : Change) (left : List ℕ) → is_good_change c ≡ true → ends_column left ≡ true → next_change (codes ", " ++ (change_text c ++ left)) ≡ Some (Some c, left)
unfolding next_change
takes_next_change c left good ends =
    let parts = and_parts (is_written_change c) (is_typed_change c) good in
    rw (takes_word (codes ", ") (change_text c ++ left), takes_change c left parts.0 parts.1 ends) refl

no_change : next_change (codes ";\n") ≡ Some (None, codes ";\n")
unfolding next_change
no_change = rw (passes_word (codes ", ") (codes ";\n") refl) refl

changes_taken : Takes next_change (λ c. codes ", " ++ change_text c) is_good_change (λ left. ends_column left ≡ true) (codes ";\n") (codes ";\n")
changes_taken = record { ends = no_change; end_follows = refl; piece_follows = λ c rest. refl; some = λ c. omega arith; takes = λ c rest good follows. takes_next_change c rest good follows }

more_end : (cs : List Change) → ends_column (flat_map (λ c. codes ", " ++ change_text c) cs ++ codes ";\n") ≡ true
more_end [] = refl
more_end (c ∷ cs) = refl

pub takes_alter : (t : TableName) (c : Change) (cs : List Change) → list_all is_good_change (c ∷ cs) ≡ true
    → alter (table_name_text t ++ (32 ∷ (change_text c ++ (flat_map (λ c. codes ", " ++ change_text c) cs ++ codes ";\n")))) ≡ Some (record_of.Alter t (c ∷ cs), [])
unfolding alter
takes_alter t c cs good =
    let parts = and_parts (is_good_change c) (list_all is_good_change cs) good in
    let first = and_parts (is_written_change c) (is_typed_change c) parts.0 in
    let rest : List ℕ = flat_map (λ c. codes ", " ++ change_text c) cs ++ codes ";\n" in
    rw (
      takes_table_name t (32 ∷ (change_text c ++ rest)) refl,
      takes_word (codes " ") (change_text c ++ rest),
      takes_change c rest first.0 first.1 (more_end cs),
      takes_further next_change (λ c. codes ", " ++ change_text c) is_good_change (λ left. ends_column left ≡ true) (codes ";\n") (codes ";\n") changes_taken (omega arith) (c ∷ []) cs parts.1,
      takes_word (codes ";\n") [],
    ) refl

pub alter_shape : (t : TableName) (c : Change) (cs : List Change) → alter_text t (c ∷ cs) ≡ codes "ALTER TABLE " ++ (table_name_text t ++ (32 ∷ (change_text c ++ (flat_map (λ c. codes ", " ++ change_text c) cs ++ codes ";\n"))))
alter_shape t c cs =
    four (codes "ALTER TABLE ") (table_name_text t) (32 ∷ (change_text c ++ flat_map (behind (codes ", ")) (map change_text cs))) (codes ";\n")
    ∙ ap (λ xs. codes "ALTER TABLE " ++ (table_name_text t ++ (32 ∷ xs)))
    (append_assoc (change_text c) (flat_map (behind (codes ", ")) (map change_text cs)) (codes ";\n") ∙ ap (λ xs. change_text c ++ (xs ++ codes ";\n")) (mapped (behind (codes ", ")) change_text cs))
