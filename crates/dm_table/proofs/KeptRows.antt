-- An operation that isn't refused leaves rows that fit, stand under their own keys, and are apart in unique keys.
use Rattle.std.proofs.Common.{◌≡◌, Bool, true, false, cond, not, ◌&&◌, ◌||◌, List, [], ◌∷◌, length, Option, Some, None, Result, Ok, refl, sym, ap, subst, ◌∙◌, inl, inr}
use Rattle.std.specs.Prelude.{is_none, is_some, unwrap_or, option_and_then, ◌⊎◌}
use Rattle.std.specs.Option.{option_map_or, option_or}
use Rattle.std.specs.List.{list_any, list_all}
use Rattle.std.specs.FinMap as fin
use Rattle.std.specs.FinMap.{find, get-insert, get-remove, get-entries, get-empty}
use Rattle.std.proofs.lemmas.Bool.{cases_Bool, not-false, and_parts, or_parts, or_right, and_from, false≢true, both_ways, cond-true, cond-false}
use Rattle.std.proofs.lemmas.List.{length-map}
use Rattle.dm_value.specs.declared.value.Value.{Value}
use Rattle.dm_value.specs.declared.value.Value.TheVariants as value
use Rattle.dm_value.specs.Order.{row_cmp}
use Rattle.dm_value.proofs.OrderLemmas.{row_total}
use Rattle.dm_schema.specs.declared.column.Column.{Column}
use Rattle.dm_schema.specs.declared.column.UniqueKey.{UniqueKey}
use Rattle.dm_schema.specs.Layout.{Layout}
use Rattle.dm_schema.specs.Names.{Text}
use Rattle.dm_schema.specs.Kinds.{is_null}
use Rattle.dm_schema.specs.Fits.{fits}
use Rattle.dm_schema.specs.Fill.{fill, fill_for_missing}
use Rattle.dm_schema.specs.Rows.{cell, key_of, values_at}
use Rattle.dm_schema.specs.Schemas.{is_formed}
use Rattle.dm_table.specs.declared.op.RowOp.{RowOp}
use Rattle.dm_table.specs.declared.op.RowOp.TheVariants as op
use Rattle.dm_table.specs.declared.fault.TableFault.{TableFault}
use Rattle.dm_table.specs.Contents.{Row, RowMap, AreRows, same_row, agree_in, share_unique, fits_row}
use Rattle.dm_table.specs.Operations.{refusals, effect, applied, given, left_value, left_row, is_unfit, is_unfit_value, needs_room, is_other, is_unique_taken, without_sharing}
use Rattle.dm_list.specs.Answer.{first_refusal, unless_refused}
use Rattle.dm_table.proofs.Refusing.{Judged, passes}
use Rattle.dm_table.proofs.ListTests.{each, each_of_two, none_passes, turned}
use Rattle.dm_table.proofs.CellLaws.{fits_row-map, fits_there, cells_fit}
use Rattle.dm_join.proofs.Lists.{all_from}
use Rattle.dm_join.proofs.Formed.{formed_parts}
use Rattle.dm_join.proofs.Widening.{fill_fits, missing_fills}
use Rattle.dm_table.proofs.Filtered.{same_is_same, same_turned, same_itself, get-filter, kept_passes}
use Rattle.dm_table.proofs.Taken.{leaves, all_fit, is_there, none_taken}

-- Rows that agree.

any_step : {A : Type 0} (p q : A → Bool) → ((x : A) → p x ≡ true → q x ≡ true) → (xs : List A) → list_any p xs ≡ true → list_any q xs ≡ true
any_step p q step [] h = absurd (false≢true h)
any_step p q step (x ∷ xs) h = by (p x) refl h (any_step p q step xs) where
  by : (b : Bool) → p x ≡ b → (b || list_any p xs) ≡ true → (list_any p xs ≡ true → list_any q xs ≡ true) → (q x || list_any q xs) ≡ true
  by true told e rest = ap (λ b. b || list_any q xs) (step x told)
  by false told e rest = or_right (q x) (list_any q xs) (rest e)

pub agree_turned : (key : UniqueKey) (columns : List Column) (a b : Row) → agree_in key columns a b ≡ true → agree_in key columns b a ≡ true
agree_turned key columns a b h =
    let parts = and_parts (not (list_any is_null (values_at columns a key.columns))) (same_row (values_at columns a key.columns) (values_at columns b key.columns)) h in
    let same = same_is_same (values_at columns a key.columns) (values_at columns b key.columns) parts.1 in
    and_from (not (list_any is_null (values_at columns b key.columns))) (same_row (values_at columns b key.columns) (values_at columns a key.columns)) (ap (λ (v : Row). not (list_any is_null v)) (sym same) ∙ parts.0)
    (same_turned (values_at columns b key.columns) (values_at columns a key.columns) ∙ parts.1)

pub share_turned : (layout : Layout) (a b : Row) → share_unique layout a b ≡ true → share_unique layout b a ≡ true
share_turned layout a b h = any_step (λ key. agree_in key layout.columns a b) (λ key. agree_in key layout.columns b a) (λ key. agree_turned key layout.columns a b) layout.uniques h

-- Fewer rows, and one more.

pub fewer : (layout : Layout) (rows sub : RowMap) → ((k row : Row) → fin.get sub k ≡ Some row → fin.get rows k ≡ Some row) → AreRows layout rows → AreRows layout sub
fewer layout rows sub among are = record {
  long = λ k row is. are.long k row (among k row is);
  fit = λ k row is. are.fit k row (among k row is);
  keyed = λ k row is. are.keyed k row (among k row is);
  apart = λ k l a b is_a is_b share. are.apart k l a b (among k a is_a) (among l b is_b) share;
}

module _ (layout : Layout) (rows : RowMap) (row : Row) (are : AreRows layout rows) (long : length row ≡ length layout.columns) (fit : fits_row layout.columns row ≡ true)
    (apart : (l b : Row) → fin.get rows l ≡ Some b → share_unique layout row b ≡ true → same_row (key_of layout row) l ≡ true) where
  abbrev IsNew : Row → Row → Type 0
  IsNew k a = (key_of layout row ≡ k) × (row ≡ a)

  abbrev IsOld : Row → Row → Type 0
  IsOld k a = (same_row (key_of layout row) k ≡ false) × (fin.get rows k ≡ Some a)

  new_or_old : (k a : Row) → fin.get (fin.insert rows (key_of layout row) row) k ≡ Some a → IsNew k a ⊎ IsOld k a
  new_or_old k a is = by (cases_Bool (same_row (key_of layout row) k)) where
    by : (same_row (key_of layout row) k ≡ true) ⊎ (same_row (key_of layout row) k ≡ false) → IsNew k a ⊎ IsOld k a
    by (inl same) =
        let both : Some row ≡ Some a =
        sym (get-insert row_total rows (key_of layout row) row k ∙ cond-true (same_row k (key_of layout row)) (Some row) (fin.get rows k) (same_turned k (key_of layout row) ∙ same)) ∙ is in
        inl (same_is_same (key_of layout row) k same, cc both)
    by (inr other) =
        inr (other, sym (get-insert row_total rows (key_of layout row) row k ∙ cond-false (same_row k (key_of layout row)) (Some row) (fin.get rows k) (same_turned k (key_of layout row) ∙ other)) ∙ is)

  long_at : (k a : Row) → IsNew k a ⊎ IsOld k a → length a ≡ length layout.columns
  long_at k a (inl new) = ap length (sym new.1) ∙ long
  long_at k a (inr old) = are.long k a old.1

  fit_at : (k a : Row) → IsNew k a ⊎ IsOld k a → fits_row layout.columns a ≡ true
  fit_at k a (inl new) = ap (fits_row layout.columns) (sym new.1) ∙ fit
  fit_at k a (inr old) = are.fit k a old.1

  keyed_at : (k a : Row) → IsNew k a ⊎ IsOld k a → same_row (key_of layout a) k ≡ true
  keyed_at k a (inl new) = ap (λ (r : Row). same_row (key_of layout r) k) (sym new.1) ∙ ap (λ (r : Row). same_row r k) new.0 ∙ same_itself k
  keyed_at k a (inr old) = are.keyed k a old.1

  apart_at : (k l a b : Row) → share_unique layout a b ≡ true → IsNew k a ⊎ IsOld k a → IsNew l b ⊎ IsOld l b → same_row k l ≡ true
  apart_at k l a b share (inl p) (inl q) = ap (same_row k) (sym q.0 ∙ p.0) ∙ same_itself k
  apart_at k l a b share (inl p) (inr q) = absurd (both_ways _ q.0 (apart l b q.1 (ap (λ (r : Row). share_unique layout r b) p.1 ∙ share)))
  apart_at k l a b share (inr p) (inl q) = absurd (both_ways _ p.0 (apart k a p.1 (ap (λ (r : Row). share_unique layout r a) q.1 ∙ share_turned layout a b share)))
  apart_at k l a b share (inr p) (inr q) = are.apart k l a b p.1 q.1 share

  pub one_more : AreRows layout (fin.insert rows (key_of layout row) row)
  one_more = record {
    long = λ k a is. long_at k a (new_or_old k a is);
    fit = λ k a is. fit_at k a (new_or_old k a is);
    keyed = λ k a is. keyed_at k a (new_or_old k a is);
    apart = λ k l a b is_a is_b share. apart_at k l a b share (new_or_old k a is_a) (new_or_old l b is_b);
  }

pub no_rows : (layout : Layout) → AreRows layout fin.empty
no_rows layout = record {
  long = λ k a is. absurd (nothing k a is);
  fit = λ k a is. absurd (nothing k a is);
  keyed = λ k a is. absurd (nothing k a is);
  apart = λ k l a b is_a is_b share. absurd (nothing k a is_a);
} where
  nothing : (k a : Row) → fin.get (fin.empty {X = Row} {R = row_cmp}) k ≡ Some a → ⊥
  nothing k a is = let both : None ≡ Some a = sym (get-empty row_cmp k) ∙ is in cc both

-- Values that fit.

-- the fill of a column, where it has one, fits it
abbrev pub fill_is_fit : Column → Bool
fill_is_fit c = option_map_or (λ v. fits v c) (fill c) true

pub fills_fit : (layout : Layout) → is_formed layout ≡ true → list_all fill_is_fit layout.columns ≡ true
fills_fit layout formed = all_from fill_is_fit layout.columns (λ c among. by c (fill c) refl (λ v is. fill_fits layout c v (formed_parts layout formed) among is)) where
  by : (c : Column) (o : Option Value) → fill c ≡ o → ((v : Value) → fill c ≡ Some v → fits v c ≡ true) → option_map_or (λ v. fits v c) o true ≡ true
  by c None is told = refl
  by c (Some v) is told = told v is

missing_fits : (c : Column) (v : Value) → fill_is_fit c ≡ true → fill_for_missing c ≡ Some v → fits v c ≡ true
missing_fits c v fit is = sym (ap (λ o. option_map_or (λ v. fits v c) o true) (missing_fills c (ap is_some is) ∙ is)) ∙ fit

-- a value of a new row
new_fits : (c : Column) (g : Option Value) → (is_unfit_value g c || (is_none g && is_none (fill_for_missing c)) || false) ≡ false → fill_is_fit c ≡ true → fits (unwrap_or (option_or g (fill_for_missing c)) value.Null) c ≡ true
new_fits c (Some v) fine default = not-false (fits v c) (or_parts (not (fits v c)) false (or_parts (not (fits v c) || false) false fine).0).0
new_fits c None fine default = by (fill_for_missing c) refl (or_parts false (is_none (fill_for_missing c)) (or_parts (is_none (fill_for_missing c)) false fine).0).1 where
  by : (o : Option Value) → fill_for_missing c ≡ o → is_none o ≡ false → fits (unwrap_or o value.Null) c ≡ true
  by None is some = absurd (false≢true (sym some))
  by (Some v) is some = missing_fits c v default is

-- a value of a row that was there
old_fits : (c : Column) (g o : Option Value) → is_unfit_value g c ≡ false → fits_there c o ≡ true → fits (unwrap_or (option_or g o) value.Null) c ≡ true
old_fits c (Some v) o fine there = not-false (fits v c) fine
old_fits c None None fine there = absurd (false≢true there)
old_fits c None (Some v) fine there = there

-- Unique keys.

pub entry_tested : (f : Row × Row → Bool) (es : List (Row × Row)) (l b : Row) → list_any f es ≡ false → find row_cmp l es ≡ Some b → f (l, b) ≡ false
entry_tested f [] l b none is = absurd (cc is)
entry_tested f (e ∷ es) l b none is = by (same_row l e.0) refl is (entry_tested f es l b parts.1) where
  parts : (f e ≡ false) × (list_any f es ≡ false)
  parts = or_parts (f e) (list_any f es) none

  by : (t : Bool) → same_row l e.0 ≡ t → cond t (Some e.1) (find row_cmp l es) ≡ Some b → (find row_cmp l es ≡ Some b → f (l, b) ≡ false) → f (l, b) ≡ false
  by true same h rest = let here : e.1 ≡ b = cc h in ap (λ (k : Row). f (k, b)) (same_is_same l e.0 same) ∙ ap (λ (r : Row). f (e.0, r)) (sym here) ∙ parts.0
  by false other h rest = rest h

alone_in : (layout : Layout) (o : RowOp) (rows : RowMap) (row l b : Row) → needs_room o ≡ true → list_all (λ key. not (needs_room o && is_unique_taken layout o rows row key)) layout.uniques ≡ true → fin.get rows l ≡ Some b
    → is_other o l ≡ true → share_unique layout row b ≡ false
alone_in layout o rows row l b room none is other =
    none_passes (λ key. agree_in key layout.columns row b) layout.uniques
    (each (λ key. not (needs_room o && is_unique_taken layout o rows row key)) (λ key. not (agree_in key layout.columns row b)) step layout.uniques none) where
      step : (key : UniqueKey) → not (needs_room o && is_unique_taken layout o rows row key) ≡ true → not (agree_in key layout.columns row b) ≡ true
      step key free =
          let untaken : is_unique_taken layout o rows row key ≡ false = turned _ (sym (ap (λ t. not (t && is_unique_taken layout o rows row key)) room) ∙ free) in
          let tested = entry_tested (λ e. is_other o e.0 && agree_in key layout.columns row e.1) (fin.entries rows) l b untaken (sym (get-entries rows l) ∙ is) in
          ap not (sym (ap (λ t. t && agree_in key layout.columns row b) other) ∙ tested)

-- Operations.

module _ (layout : Layout) (rows : RowMap) (formed : is_formed layout ≡ true) (are : AreRows layout rows) where
  insert_keeps : (columns : List Text) (row : Row) (after : RowMap) → applied layout (op.Insert columns row) rows ≡ Ok after → AreRows layout (effect layout (op.Insert columns row) rows)
  insert_keeps columns row after goes =
      let o = op.Insert columns row in
      one_more layout rows (left_row layout o rows) are (length-map layout.columns _)
      (fits_row-map (left_value layout.columns o rows) layout.columns
      ∙ each_of_two (λ c. not (is_unfit layout o c)) fill_is_fit (λ c. fits (left_value layout.columns o rows c) c)
      (λ c fine default. new_fits c (given o c) (turned _ fine) default) layout.columns (all_fit layout o rows after goes) (fills_fit layout formed))
      (λ l b is share. absurd (both_ways _ (alone_in layout o rows (left_row layout o rows) l b refl (none_taken layout o rows after goes) is refl) share))

  replace_keeps : (columns : List Text) (row : Row) (after : RowMap) → applied layout (op.Replace columns row) rows ≡ Ok after → AreRows layout (effect layout (op.Replace columns row) rows)
  replace_keeps columns row after goes =
      let o = op.Replace columns row in
      let made = left_row layout o rows in
      one_more layout (without_sharing layout made rows) made (fewer layout rows (without_sharing layout made rows) (λ k a is. (was made k a is).0) are) (length-map layout.columns _)
      (fits_row-map (left_value layout.columns o rows) layout.columns
      ∙ each_of_two (λ c. not (is_unfit layout o c)) fill_is_fit (λ c. fits (left_value layout.columns o rows c) c)
      (λ c fine default. new_fits c (given o c) (turned _ fine) default) layout.columns (all_fit layout o rows after goes) (fills_fit layout formed))
      (λ l b is share. absurd (both_ways _ (or_parts _ _ (turned _ (was made l b is).1)).1 share)) where
        was : (made k a : Row) → fin.get (without_sharing layout made rows) k ≡ Some a → (fin.get rows k ≡ Some a) × (not (same_row (key_of layout made) k || share_unique layout made a) ≡ true)
        was made k a is =
            kept_passes (λ e. not (same_row (key_of layout made) e.0 || share_unique layout made e.1)) k (fin.get rows k) a
            (sym (get-filter (λ e. not (same_row (key_of layout made) e.0 || share_unique layout made e.1)) rows k) ∙ is)

  not_removed : (key k a : Row) → fin.get (fin.remove rows key) k ≡ Some a → (same_row key k ≡ false) × (fin.get rows k ≡ Some a)
  not_removed key k a is = by (cases_Bool (same_row key k)) where
    by : (same_row key k ≡ true) ⊎ (same_row key k ≡ false) → (same_row key k ≡ false) × (fin.get rows k ≡ Some a)
    by (inl same) =
        let none : fin.get (fin.remove rows key) k ≡ None = get-remove row_total rows key k ∙ cond-true (same_row k key) None (fin.get rows k) (same_turned k key ∙ same) in
        let both : None ≡ Some a = sym none ∙ is in
        absurd (cc both)
    by (inr other) = (other, sym (get-remove row_total rows key k ∙ cond-false (same_row k key) None (fin.get rows k) (same_turned k key ∙ other)) ∙ is)

  remove_keeps : (key : Row) → AreRows layout (fin.remove rows key)
  remove_keeps key = fewer layout rows (fin.remove rows key) (λ k a is. (not_removed key k a is).1) are

  has_row : (o : Option Row) → is_none o ≡ false → (r : Row) × (o ≡ Some r)
  has_row None e = absurd (false≢true (sym e))
  has_row (Some r) e = (r, refl)

  update_keeps : (columns : List Text) (key row : Row) (after : RowMap) → applied layout (op.Update columns key row) rows ≡ Ok after → AreRows layout (effect layout (op.Update columns key row) rows)
  update_keeps columns key row after goes =
      let o = op.Update columns key row in
      let old = has_row (fin.get rows key) (is_there layout o rows after goes) in
      one_more layout (fin.remove rows key) (left_row layout o rows) (remove_keeps key) (length-map layout.columns _)
      (fits_row-map (left_value layout.columns o rows) layout.columns
      ∙ each_of_two (λ c. not (is_unfit layout o c)) (λ c. fits_there c (cell layout.columns old.0 c.name)) (λ c. fits (left_value layout.columns o rows c) c)
      (λ c fine there. ap (λ (r : Option Row). fits (unwrap_or (option_or (given o c) (option_and_then (λ row. cell layout.columns row c.name) r)) value.Null) c) old.1
      ∙ old_fits c (given o c) (cell layout.columns old.0 c.name) (or_parts _ _ (or_parts _ _ (turned _ fine)).0).0 there) layout.columns (all_fit layout o rows after goes)
      (cells_fit layout.columns old.0 (formed_parts layout formed).columns_apart (are.long key old.0 old.1) (are.fit key old.0 old.1)))
      (λ l b is share. absurd (both_ways _ (alone_in layout o rows (left_row layout o rows) l b refl (none_taken layout o rows after goes) (not_removed key l b is).1 (ap not (not_removed key l b is).0)) share))

  pub keeps : (o : RowOp) (after : RowMap) → applied layout o rows ≡ Ok after → AreRows layout after
  keeps (op.Insert columns row) after goes = subst (AreRows layout) (leaves layout (op.Insert columns row) rows after goes) (insert_keeps columns row after goes)
  keeps (op.Replace columns row) after goes = subst (AreRows layout) (leaves layout (op.Replace columns row) rows after goes) (replace_keeps columns row after goes)
  keeps (op.Update columns key row) after goes = subst (AreRows layout) (leaves layout (op.Update columns key row) rows after goes) (update_keeps columns key row after goes)
  keeps (op.Delete key) after goes = subst (AreRows layout) (leaves layout (op.Delete key) rows after goes) (remove_keeps key)
  keeps (op.Erase key) after goes = subst (AreRows layout) (leaves layout (op.Erase key) rows after goes) (remove_keeps key)

-- the same of an operation that was judged, and its effect
pub effect_keeps : (layout : Layout) (o : RowOp) (rows after : RowMap) (u : Unit {0}) → is_formed layout ≡ true → Judged (Ok u) (first_refusal (refusals layout o rows)) → after ≡ effect layout o rows → AreRows layout rows → AreRows layout after
effect_keeps layout o rows after u formed judged is are =
    keeps layout rows formed are o after
    (ap (λ refusal. unless_refused refusal (effect layout o rows)) (passes u (first_refusal (refusals layout o rows)) judged) ∙ ap (λ (m : RowMap). let r : Result RowMap TableFault = Ok m in r) (sym is))
