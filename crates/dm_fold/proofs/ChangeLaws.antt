-- What a change of a row leaves of a table: its new row under its key, nothing under the old one, and all else as it was.
use Rattle.std.proofs.Common.{◌≡◌, Bool, true, false, cond, List, [], ◌∷◌, length, Option, Some, None, Result, Ok, Err, refl, sym, ap, subst, ◌∙◌}
use Rattle.std.specs.Prelude.{◌==◌, IsTrue}
use Rattle.std.specs.List.{list_any}
use Rattle.std.specs.FinMap as fin
use Rattle.std.specs.FinMap.{get-insert, get-remove}
use Rattle.std.proofs.lemmas.Bool.{or_parts, cond-true, cond-false, eqb-true}
use Rattle.dm_value.proofs.OrderLemmas.{row_total}
use Rattle.dm_schema.specs.Layout.{Layout}
use Rattle.dm_schema.specs.Names.{column_names}
use Rattle.dm_schema.specs.Rows.{key_of}
use Rattle.dm_schema.specs.Schemas.{is_formed, column_repeats}
use Rattle.dm_schema.specs.declared.row_change.RowChange.{RowChange}
use Rattle.dm_schema.specs.declared.row_change.RowChange.TheVariants as change
use Rattle.dm_join.proofs.Formed.{formed_parts}
use Rattle.dm_table.specs.declared.op.RowOp.{RowOp}
use Rattle.dm_table.specs.declared.op.RowOp.TheVariants as op
use Rattle.dm_table.specs.declared.fault.TableFault.{TableFault}
use Rattle.dm_table.specs.Contents.{Row, RowMap, TableContent, same_row}
use Rattle.dm_table.specs.Operations.{applied, all_applied, effect, left_row, table_applied, with_rows, with_row}
use Rattle.dm_table.specs.Meeting.{meets}
use Rattle.dm_table.proofs.Filtered.{same_itself, same_turned}
use Rattle.dm_table.proofs.InTurn.{first_taken, first_refused, only_one}
use Rattle.dm_table.proofs.Taken.{leaves}
use Rattle.dm_table.proofs.Untouched.{untouched}
use Rattle.dm_fold.specs.Folds.{changed, deletion, has_old, insertion, ops_of, unless_refused}
use Rattle.dm_fold.specs.Touching.{touched_keys, touches, new_row, old_row, has_key, is_whole}
use Rattle.dm_fold.proofs.WholeRows.{whole_row}

refused_or_not : (r : Result TableContent TableFault) (t : TableContent) → unless_refused r ≡ Some t → r ≡ Ok t
refused_or_not (Ok table) t is = let same : table ≡ t = cc is in ap Ok same
refused_or_not (Err f) t is = absurd (cc is)

-- a change that is made has its old row there, and its operations are taken
made_by : (table after : TableContent) (c : RowChange) → changed table c ≡ Some after → table_applied table (ops_of table.layout c) ≡ Ok after
made_by table after c is = by (has_old table c) is where
  by : (b : Bool) → cond b (unless_refused (table_applied table (ops_of table.layout c))) None ≡ Some after → table_applied table (ops_of table.layout c) ≡ Ok after
  by true e = refused_or_not (table_applied table (ops_of table.layout c)) after e
  by false e = absurd (cc e)

parts_of : (layout : Layout) (r : Result RowMap TableFault) (t : TableContent) → with_rows layout r ≡ Ok t → (r ≡ Ok t.rows) × (t.layout ≡ layout)
parts_of layout (Ok rows) t is =
    let same : record { layout = layout; rows = rows } ≡ t = cc is in
    (ap (λ (t : TableContent). let r : Result RowMap TableFault = Ok t.rows in r) same, ap (λ (t : TableContent). t.layout) (sym same))
parts_of layout (Err f) t is = absurd (cc is)

-- its schema stays
pub change_keeps_schema : (table after : TableContent) (c : RowChange) → changed table c ≡ Some after → after.layout ≡ table.layout
change_keeps_schema table after c is = (parts_of table.layout (all_applied table.layout (ops_of table.layout c) table.rows) after (made_by table after c is)).1

two_taken : (layout : Layout) (a b : RowOp) (m n : RowMap) → all_applied layout (a ∷ b ∷ []) m ≡ Ok n → (k : RowMap) × (applied layout a m ≡ Ok k) × (applied layout b k ≡ Ok n)
two_taken layout a b m n is = by (applied layout a m) refl where
  by : (r : Result RowMap TableFault) → applied layout a m ≡ r → (k : RowMap) × (applied layout a m ≡ Ok k) × (applied layout b k ≡ Ok n)
  by (Ok k) taken = (k, taken, only_one layout b k n (sym (first_taken layout a (b ∷ []) m k taken) ∙ is))
  by (Err f) refused = let both : Err f ≡ Ok n = sym (first_refused layout a (b ∷ []) m f refused) ∙ is in absurd (cc both)

-- The rows behind an insertion and behind a deletion.

module _ (layout : Layout) (formed : is_formed layout ≡ true) (row : Row) (whole : length row ≡ length layout.columns) (rows after : RowMap) (goes : applied layout (insertion layout row) rows ≡ Ok after) where
  left : left_row layout (insertion layout row) rows ≡ row
  left = whole_row layout (insertion layout row) rows row refl refl (formed_parts layout formed).columns_apart whole

  inserted : after ≡ fin.insert rows (key_of layout row) row
  inserted = sym (leaves layout (insertion layout row) rows after goes) ∙ ap (λ (r : Row). with_row layout r rows) left

  put : fin.get after (key_of layout row) ≡ Some row
  put =
      ap (λ (m : RowMap). fin.get m (key_of layout row)) inserted
      ∙ get-insert row_total rows (key_of layout row) row (key_of layout row)
      ∙ cond-true (same_row (key_of layout row) (key_of layout row)) (Some row) (fin.get rows (key_of layout row)) (same_itself (key_of layout row))

  put_elsewhere : (q : Row) → same_row (key_of layout row) q ≡ false → fin.get after q ≡ fin.get rows q
  put_elsewhere q other = untouched layout (insertion layout row) rows after goes q (ap (λ (r : Row). same_row (key_of layout r) q) left ∙ other)

module _ (layout : Layout) (row : Row) (rows after : RowMap) (goes : applied layout (deletion layout row) rows ≡ Ok after) where
  gone : fin.get after (key_of layout row) ≡ None
  gone =
      ap (λ (m : RowMap). fin.get m (key_of layout row)) (sym (leaves layout (deletion layout row) rows after goes))
      ∙ get-remove row_total rows (key_of layout row) (key_of layout row)
      ∙ cond-true (same_row (key_of layout row) (key_of layout row)) None (fin.get rows (key_of layout row)) (same_itself (key_of layout row))

  gone_elsewhere : (q : Row) → same_row (key_of layout row) q ≡ false → fin.get after q ≡ fin.get rows q
  gone_elsewhere q other = untouched layout (deletion layout row) rows after goes q other

-- The laws.

rows_behind : (table after : TableContent) (c : RowChange) → changed table c ≡ Some after → all_applied table.layout (ops_of table.layout c) table.rows ≡ Ok after.rows
rows_behind table after c is = (parts_of table.layout (all_applied table.layout (ops_of table.layout c) table.rows) after (made_by table after c is)).0

-- a row whose key isn't touched stays
pub change_leaves : (table after : TableContent) (c : RowChange) (key : Row) → IsTrue (is_formed table.layout) → is_whole table.layout c ≡ true → changed table c ≡ Some after → touches table.layout c key ≡ false
    → fin.get after.rows key ≡ fin.get table.rows key
change_leaves table after (change.Insert new) key formed whole is other =
    put_elsewhere table.layout formed new (eqb-true (length new) (length table.layout.columns) whole) table.rows after.rows
    (only_one table.layout (insertion table.layout new) table.rows after.rows (rows_behind table after (change.Insert new) is)) key
    (or_parts (same_row (key_of table.layout new) key) false other).0
change_leaves table after (change.Update old new) key formed whole is other =
    let steps = two_taken table.layout (deletion table.layout old) (insertion table.layout new) table.rows after.rows (rows_behind table after (change.Update old new) is) in
    let apart = or_parts (same_row (key_of table.layout old) key) (list_any (λ k. same_row k key) (key_of table.layout new ∷ [])) other in
    put_elsewhere table.layout formed new (eqb-true (length new) (length table.layout.columns) whole) steps.0 after.rows steps.2 key (or_parts (same_row (key_of table.layout new) key) false apart.1).0
    ∙ gone_elsewhere table.layout old table.rows steps.0 steps.1 key apart.0
change_leaves table after (change.Delete old) key formed whole is other =
    gone_elsewhere table.layout old table.rows after.rows (only_one table.layout (deletion table.layout old) table.rows after.rows (rows_behind table after (change.Delete old) is)) key
    (or_parts (same_row (key_of table.layout old) key) false other).0

-- its new row stands under its key
pub change_puts : (table after : TableContent) (c : RowChange) (row : Row) → IsTrue (is_formed table.layout) → is_whole table.layout c ≡ true → changed table c ≡ Some after → new_row c ≡ Some row
    → fin.get after.rows (key_of table.layout row) ≡ Some row
change_puts table after (change.Insert new) row formed whole is has =
    let same : new ≡ row = cc has in
    subst (λ r. fin.get after.rows (key_of table.layout r) ≡ Some r) same
    (put table.layout formed new (eqb-true (length new) (length table.layout.columns) whole) table.rows after.rows
    (only_one table.layout (insertion table.layout new) table.rows after.rows (rows_behind table after (change.Insert new) is)))
change_puts table after (change.Update old new) row formed whole is has =
    let same : new ≡ row = cc has in
    let steps = two_taken table.layout (deletion table.layout old) (insertion table.layout new) table.rows after.rows (rows_behind table after (change.Update old new) is) in
    subst (λ r. fin.get after.rows (key_of table.layout r) ≡ Some r) same
    (put table.layout formed new (eqb-true (length new) (length table.layout.columns) whole) steps.0 after.rows steps.2)
change_puts table after (change.Delete old) row formed whole is has = absurd (cc has)

-- under the old row's key there is no row, unless the new one has that key
pub change_takes : (table after : TableContent) (old : Row) (c : RowChange) → IsTrue (is_formed table.layout) → is_whole table.layout c ≡ true → changed table c ≡ Some after → old_row c ≡ Some old
    → has_key table.layout (new_row c) (key_of table.layout old) ≡ false → fin.get after.rows (key_of table.layout old) ≡ None
change_takes table after old (change.Insert new) formed whole is has other = absurd (cc has)
change_takes table after old (change.Update before new) formed whole is has other =
    let same : before ≡ old = cc has in
    let steps = two_taken table.layout (deletion table.layout before) (insertion table.layout new) table.rows after.rows (rows_behind table after (change.Update before new) is) in
    put_elsewhere table.layout formed new (eqb-true (length new) (length table.layout.columns) whole) steps.0 after.rows steps.2 (key_of table.layout old) other
    ∙ subst (λ r. fin.get steps.0 (key_of table.layout r) ≡ None) same (gone table.layout before table.rows steps.0 steps.1)
change_takes table after old (change.Delete before) formed whole is has other =
    let same : before ≡ old = cc has in
    subst (λ r. fin.get after.rows (key_of table.layout r) ≡ None) same
    (gone table.layout before table.rows after.rows (only_one table.layout (deletion table.layout before) table.rows after.rows (rows_behind table after (change.Delete before) is)))
