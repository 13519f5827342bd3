-- Laws of folds: a fold has the schema at its position, an item is carried out on the fold before it, and an item leaves the
-- rows whose keys it doesn't touch.
use Rattle.std.proofs.Common.{◌≡◌, ℕ, zero, suc, ◌+◌, ◌-◌, ◌<◌, ◌==◌, Bool, true, false, List, [], ◌∷◌, length, take, Option, Some, None, Result, Ok, Err, refl, sym, ap, subst, ◌∙◌, arith}
use Rattle.std.specs.Prelude.{IsTrue, option_and_then, slice_get, unwrap_or, get_or}
use Rattle.std.specs.Cmp.Lexicographic.{pointwise}
use Rattle.std.specs.List.{filter}
use Rattle.std.proofs.lemmas.Bool.{and_parts, eq-eqb, false≢true}
use Rattle.std.specs.FinMap as fin
use Rattle.std.proofs.lemmas.Option.{get_or_from_slice_get, slice_get_within}
use Rattle.dm_list.specs.Answer.{first_refusal}
use Rattle.dm_schema.specs.Layout.{Layout}
use Rattle.dm_schema.specs.Rows.{key_of}
use Rattle.dm_schema.specs.Schemas.{is_formed}
use Rattle.dm_schema.specs.declared.row_change.RowChange.{RowChange}
use Rattle.dm_schema.specs.declared.row_change.RowChange.TheVariants as change
use Rattle.dm_schema.specs.declared.column.Column.{Column}
use Rattle.dm_schema.specs.Fits.{fits}
use Rattle.dm_join.proofs.Lists.{skip_failing}
use Rattle.dm_table.specs.Alterations.{alter_refusals, altered, reshaped}
use Rattle.dm_table.specs.Contents.{Row, TableContent, new_table}
use Rattle.dm_table.specs.declared.fault.TableFault.{TableFault}
use Rattle.dm_table.proofs.Taken.{not_refused}
use Rattle.dm_files.specs.declared.files.NamedFile.{NamedFile}
use Rattle.dm_walk.specs.declared.item.Item.{Item}
use Rattle.dm_walk.specs.declared.item.Item.TheVariants as item
use Rattle.dm_walk.specs.declared.item.Place.{Place}
use Rattle.dm_track.specs.Changes.{change_fits, change_of}
use Rattle.dm_track.specs.Histories.{History, ddls_before, is_ddl, item_of, schema_at}
use Rattle.dm_track.proofs.FitLaws.{change_of_fits}
use Rattle.dm_fold.specs.declared.fault.FoldFault.{FoldFault}
use Rattle.dm_fold.specs.declared.fault.FoldFault.TheVariants as fault
use Rattle.dm_fold.specs.Folds.{and_item, changed, folded, unless_refused, with_item}
use Rattle.dm_fold.specs.Touching.{is_whole, touches}
use Rattle.dm_fold.proofs.ChangeLaws.{change_keeps_schema, change_leaves}
use Rattle.dm_fold.proofs.Steps.{next, none_done}
-- What a change leaves of a table.
pub use Rattle.dm_fold.proofs.ChangeLaws.{change_keeps_schema, change_leaves, change_puts, change_takes}

refused_or_not : (r : Result TableContent TableFault) (t : TableContent) → unless_refused r ≡ Some t → r ≡ Ok t
refused_or_not (Ok table) t is = let same : table ≡ t = cc is in ap Ok same
refused_or_not (Err f) t is = absurd (cc is)

-- a table that was altered has that schema
altered_has_schema : (table after : TableContent) (layout : Layout) → unless_refused (altered table layout) ≡ Some after → after.layout ≡ layout
altered_has_schema table after layout is =
    let made = refused_or_not (altered table layout) after is in
    let same = (not_refused (first_refusal (alter_refusals table layout)) (record { layout = layout; rows = reshaped table.layout.columns layout.columns table.rows }) after made).1 in
    ap (λ (t : TableContent). t.layout) (sym same)

back : (n : ℕ) → suc n - 1 ≡ n
back n = omega arith

-- as many values as columns
as_long : (row : Row) (columns : List Column) → pointwise fits row columns ≡ true → length row ≡ length columns
as_long [] [] fit = refl
as_long [] (c ∷ cs) fit = absurd (false≢true fit)
as_long (v ∷ vs) [] fit = absurd (false≢true fit)
as_long (v ∷ vs) (c ∷ cs) fit = ap suc (as_long vs cs (and_parts (fits v c) (pointwise fits vs cs) fit).1)

fitting_is_whole : (layout : Layout) (c : RowChange) → change_fits layout c ≡ true → is_whole layout c ≡ true
fitting_is_whole layout (change.Insert new) fit = eq-eqb (length new) (length layout.columns) (as_long new layout.columns fit)
fitting_is_whole layout (change.Update old new) fit =
    eq-eqb (length new) (length layout.columns) (as_long new layout.columns (and_parts (pointwise fits old layout.columns) (pointwise fits new layout.columns) fit).1)
fitting_is_whole layout (change.Delete old) fit = refl

one_more : (n : ℕ) → suc n ≡ n + 1
one_more n = omega arith

module _ (files : List NamedFile) (h : History) where
  row_keeps_schema : (n : ℕ) (place : Place) → slice_get h.items n ≡ Some (item.Row place) → schema_at h (suc n) ≡ schema_at h n
  row_keeps_schema n place at =
      let here : item.Row place ≡ get_or h.items n (item.Row place) = sym (get_or_from_slice_get h.items n (item.Row place) (item.Row place) at) in
      let same = skip_failing is_ddl h.items (filter is_ddl (take n h.items)) n (item.Row place) (slice_get_within h.items n (item.Row place) at) here refl refl in
      let counts : ddls_before n h.items ≡ ddls_before (suc n) h.items = ap length same ∙ ap (λ m. ddls_before m h.items) (sym (one_more n)) in
      ap (λ k. unwrap_or (slice_get (h.first ∷ h.later) k) h.first) (sym counts)

  -- an item is carried out on the fold before it
  pub fold_steps : (n : ℕ) (before after : TableContent) → folded files h n ≡ Ok before → folded files h (suc n) ≡ Ok after → with_item files h (suc n) before ≡ Some after
  fold_steps n before after first second = by (with_item files h (suc n) before) refl where
    whole : and_item (suc n) (Ok before) (with_item files h (suc n)) ≡ Ok after
    whole = ap (λ r. and_item (suc n) r (with_item files h (suc n))) (sym first) ∙ sym (next files h n) ∙ second

    conflicts_at : with_item files h (suc n) before ≡ None → and_item (suc n) (Ok before) (with_item files h (suc n)) ≡ Err (fault.Conflict (suc n))
    conflicts_at is = rw (is) refl

    goes_at : (behind : TableContent) → with_item files h (suc n) before ≡ Some behind → and_item (suc n) (Ok before) (with_item files h (suc n)) ≡ Ok behind
    goes_at behind is = rw (is) refl

    by : (o : Option TableContent) → with_item files h (suc n) before ≡ o → o ≡ Some after
    by None is = let both : Err (fault.Conflict (suc n)) ≡ Ok after = sym (conflicts_at is) ∙ whole in absurd (cc both)
    by (Some behind) is = let both : Ok behind ≡ Ok after = sym (goes_at behind is) ∙ whole in let same : behind ≡ after = cc both in ap Some same

  -- what an item does, by what it is
  abbrev outcome : ℕ → TableContent → Option Item → Option TableContent
  outcome n table None = None
  outcome n table (Some (item.Row place)) = option_and_then (changed table) (change_of files h n)
  outcome n table (Some (item.Ddl place)) = unless_refused (altered table (schema_at h n))

  item_does : (n : ℕ) (table : TableContent) (o : Option Item) → item_of h n ≡ o → with_item files h n table ≡ outcome n table o
  item_does n table None at = rw (at) refl
  item_does n table (Some (item.Row place)) at = rw (at) refl
  item_does n table (Some (item.Ddl place)) at = rw (at) refl

  -- the item of a row is the change that stands there
  pub row_item_changes : (n : ℕ) (place : Place) (before after : TableContent) → item_of h n ≡ Some (item.Row place) → with_item files h n before ≡ Some after
      → (c : RowChange) × (change_of files h n ≡ Some c) × (changed before c ≡ Some after)
  row_item_changes n place before after at is = by (change_of files h n) refl where
    here : option_and_then (changed before) (change_of files h n) ≡ Some after
    here = sym (item_does n before (Some (item.Row place)) at) ∙ is

    by : (o : Option RowChange) → change_of files h n ≡ o → (c : RowChange) × (change_of files h n ≡ Some c) × (changed before c ≡ Some after)
    by None e = let none : None ≡ Some after = sym (ap (option_and_then (changed before)) e) ∙ here in absurd (cc none)
    by (Some c) e = (c, e, sym (ap (option_and_then (changed before)) e) ∙ here)

  item_has_schema : (n : ℕ) (before after : TableContent) → with_item files h (suc n) before ≡ Some after → before.layout ≡ schema_at h n → after.layout ≡ schema_at h (suc n)
  item_has_schema n before after is had = by (item_of h (suc n)) refl where
    by : (o : Option Item) → item_of h (suc n) ≡ o → after.layout ≡ schema_at h (suc n)
    by None at = let none : None ≡ Some after = sym (item_does (suc n) before None at) ∙ is in absurd (cc none)
    by (Some (item.Row place)) at =
        let made = row_item_changes (suc n) place before after at is in
        change_keeps_schema before after made.0 made.2 ∙ had ∙ sym (row_keeps_schema n place at)
    by (Some (item.Ddl place)) at = altered_has_schema before after (schema_at h (suc n)) (sym (item_does (suc n) before (Some (item.Ddl place)) at) ∙ is)

  -- a fold has the schema at its position
  pub fold_has_schema : (n : ℕ) (table : TableContent) → folded files h n ≡ Ok table → table.layout ≡ schema_at h n
  fold_has_schema zero table is =
      let both : Ok (new_table (schema_at h 0)) ≡ Ok table = sym (none_done files h) ∙ is in
      let same : new_table (schema_at h 0) ≡ table = cc both in
      ap (λ (t : TableContent). t.layout) (sym same)
  fold_has_schema (suc n) table is = by (folded files h n) refl (fold_has_schema n) where
    by : (r : Result TableContent FoldFault) → folded files h n ≡ r → ((t : TableContent) → folded files h n ≡ Ok t → t.layout ≡ schema_at h n) → table.layout ≡ schema_at h (suc n)
    by (Err f) e had =
        let both : Err f ≡ Ok table = sym (next files h n ∙ ap (λ r. and_item (suc n) r (with_item files h (suc n))) e) ∙ is in
        absurd (cc both)
    by (Ok before) e had = item_has_schema n before table (fold_steps n before table e is) (had before e)

  -- the new row of an item has a value for each column of the fold before it
  change_is_whole : (n : ℕ) (before : TableContent) (c : RowChange) → folded files h n ≡ Ok before → change_of files h (suc n) ≡ Some c → is_whole before.layout c ≡ true
  change_is_whole n before c first is =
      subst (λ (l : Layout). is_whole l c ≡ true) (sym (fold_has_schema n before first))
      (fitting_is_whole (schema_at h n) c (subst (λ (p : ℕ). change_fits (schema_at h p) c ≡ true) (back n) (change_of_fits files h (suc n) c is)))

  -- An item of a row leaves each row whose key it doesn't touch.
  pub fold_leaves : (n : ℕ) (before after : TableContent) (place : Place) (c : RowChange) (key : Row) → folded files h n ≡ Ok before → folded files h (suc n) ≡ Ok after
      → item_of h (suc n) ≡ Some (item.Row place) → change_of files h (suc n) ≡ Some c
      → IsTrue (is_formed before.layout) → touches before.layout c key ≡ false
      → fin.get after.rows key ≡ fin.get before.rows key
  fold_leaves n before after place c key first second at is formed apart =
      let made = row_item_changes (suc n) place before after at (fold_steps n before after first second) in
      let both : Some made.0 ≡ Some c = sym made.1 ∙ is in
      let same : made.0 ≡ c = cc both in
      change_leaves before after c key formed (change_is_whole n before c first is) (subst (λ d. changed before d ≡ Some after) same made.2) apart
