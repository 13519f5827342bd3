-- What an alteration keeps of a table's rows.
use Rattle.std.proofs.Common.{◌≡◌, Bool, true, false, cond, not, List, [], ◌∷◌, ◌++◌, map, Option, Some, None, Ok, is_some, refl, sym, ap, subst, ◌∙◌}
use Rattle.std.specs.Prelude.{is_none, IsSome, unwrap_or}
use Rattle.std.specs.Option.{option_map, option_or}
use Rattle.std.specs.List.{list_all}
use Rattle.std.specs.Cmp.Lexicographic.{pointwise}
use Rattle.std.specs.FinMap as fin
use Rattle.std.specs.FinMap.{find as entry, get-from_entries, get-entries}
use Rattle.std.proofs.lemmas.Bool.{false≢true}
use Rattle.dm_list.specs.Answer.{first_refusal}
use Rattle.dm_value.specs.declared.value.Value.{Value}
use Rattle.dm_value.specs.declared.value.Value.TheVariants as value
use Rattle.dm_value.specs.Order.{row_cmp}
use Rattle.dm_value.proofs.OrderLemmas.{row_total}
use Rattle.dm_schema.specs.declared.column.Column.{Column}
use Rattle.dm_schema.specs.Layout.{Layout}
use Rattle.dm_schema.specs.Names.{Text, same_name, column_at, has_column}
use Rattle.dm_schema.specs.NameOrder.{columns_in_order, uniques_in_order}
use Rattle.dm_schema.specs.Fill.{fill}
use Rattle.dm_schema.specs.Keys.{key_number}
use Rattle.dm_schema.specs.Rows.{cell}
use Rattle.dm_table.specs.declared.fault.TableFault.TheVariants as fault
use Rattle.dm_table.specs.Contents.{Row, RowMap, TableContent, same_row}
use Rattle.dm_table.specs.Alterations.{altered, alter_refusals, reshaped, reshaped_row, reshaped_value, is_unfit_column, is_shared}
use Rattle.dm_table.specs.Following.{Follows}
use Rattle.dm_table.proofs.ListTests.{none_holds, list_all-in_order_of, found_passes, found_is_told, nothing_found, something_found}
use Rattle.dm_table.proofs.Taken.{not_refused, neither}
use Rattle.dm_table.proofs.AlterRefusals.{in_parts}
use Rattle.dm_table.specs.Judging.{unfit_column_refusals, shared_refusals}
use Rattle.dm_table.proofs.CellLaws.{cell-map, cell_lacks, equal_names}

find-map : (f : Row → Row) (q : Row) (es : List (Row × Row)) → entry row_cmp q (map (λ e. (e.0, f e.1)) es) ≡ option_map f (entry row_cmp q es)
find-map f q [] = refl
find-map f q (e ∷ es) = by (same_row q e.0) (find-map f q es) where
  by : (b : Bool) → entry row_cmp q (map (λ e. (e.0, f e.1)) es) ≡ option_map f (entry row_cmp q es)
      → cond b (Some (f e.1)) (entry row_cmp q (map (λ e. (e.0, f e.1)) es)) ≡ option_map f (cond b (Some e.1) (entry row_cmp q es))
  by true h = refl
  by false h = h

pub get-reshaped : (before after : List Column) (rows : RowMap) (q : Row) → fin.get (reshaped before after rows) q ≡ option_map (reshaped_row before after) (fin.get rows q)
get-reshaped before after rows q =
    get-from_entries row_total (map (λ e. (e.0, reshaped_row before after e.1)) (fin.entries rows)) q ∙ find-map (reshaped_row before after) q (fin.entries rows)
    ∙ ap (option_map (reshaped_row before after)) (sym (get-entries rows q))

-- the cell of a row under other columns
pub cell-reshaped : (before after : List Column) (row : Row) (name : Text) (c : Column) → column_at after name ≡ Some c → cell after (reshaped_row before after row) name ≡ Some (unwrap_or (option_or (cell before row name) (fill c)) value.Null)
cell-reshaped before after row name c at =
    cell-map (reshaped_value before row) after name ∙ ap (option_map (reshaped_value before row)) at
    ∙ ap (λ (n : Text). Some (unwrap_or (option_or (cell before row n) (fill c)) value.Null)) (equal_names c.name name (found_is_told (λ c. same_name c.name name) after c at))

-- an alteration that isn't refused
module _ (before : TableContent) (layout : Layout) (after : TableContent) (goes : altered before layout ≡ Ok after) where
  abbrev result : TableContent
  result = record { layout = layout; rows = reshaped before.layout.columns layout.columns before.rows }

  none : first_refusal (alter_refusals before layout) ≡ None
  none = (not_refused (first_refusal (alter_refusals before layout)) result after goes).0

  pub altered_is : result ≡ after
  altered_is = (not_refused (first_refusal (alter_refusals before layout)) result after goes).1

  pub same_primary : pointwise same_name before.layout.primary layout.primary ≡ true
  same_primary = by (pointwise same_name before.layout.primary layout.primary) none where
    by : (b : Bool) → cond (not b) (Some fault.PrimaryDiffers)
        (first_refusal (unfit_column_refusals before.layout.columns before.rows (columns_in_order layout.columns) ++ shared_refusals layout (reshaped before.layout.columns layout.columns before.rows) (uniques_in_order layout.uniques))) ≡ None → b ≡ true
    by true e = refl
    by false e = absurd (cc e)

  parts : (first_refusal (unfit_column_refusals before.layout.columns before.rows (columns_in_order layout.columns)) ≡ None)
      × (first_refusal (shared_refusals layout (reshaped before.layout.columns layout.columns before.rows) (uniques_in_order layout.uniques)) ≡ None)
  parts = neither _ _ (sym (in_parts before.layout before.rows layout same_primary) ∙ none)

  pub all_fit : list_all (λ c. not (is_unfit_column before.layout.columns before.rows c)) layout.columns ≡ true
  all_fit =
      sym (list_all-in_order_of (λ c. not (is_unfit_column before.layout.columns before.rows c)) (λ c. c.name) layout.columns)
      ∙ none_holds (is_unfit_column before.layout.columns before.rows) (λ c. fault.Unfit c.name) (columns_in_order layout.columns) parts.0

  pub none_shared : list_all (λ key. not (is_shared key layout.columns (reshaped before.layout.columns layout.columns before.rows))) layout.uniques ≡ true
  none_shared =
      sym (list_all-in_order_of (λ key. not (is_shared key layout.columns (reshaped before.layout.columns layout.columns before.rows))) (λ k. k.name) layout.uniques)
      ∙ none_holds (λ key. is_shared key layout.columns (reshaped before.layout.columns layout.columns before.rows)) (λ key. fault.Duplicate (key_number layout.uniques key)) (uniques_in_order layout.uniques) parts.1

  there : (key : Row) → is_some (fin.get after.rows key) ≡ is_some (fin.get before.rows key)
  there key = ap (λ (t : TableContent). is_some (fin.get t.rows key)) (sym altered_is) ∙ ap is_some (get-reshaped before.layout.columns layout.columns before.rows key) ∙ by (fin.get before.rows key) where
    by : (o : Option Row) → is_some (option_map (reshaped_row before.layout.columns layout.columns) o) ≡ is_some o
    by None = refl
    by (Some row) = refl

  made_of : (key row made : Row) → fin.get before.rows key ≡ Some row → fin.get after.rows key ≡ Some made → reshaped_row before.layout.columns layout.columns row ≡ made
  made_of key row made is is_made =
      let both : Some (reshaped_row before.layout.columns layout.columns row) ≡ Some made =
      sym (ap (λ (t : TableContent). fin.get t.rows key) (sym altered_is) ∙ get-reshaped before.layout.columns layout.columns before.rows key ∙ ap (option_map (reshaped_row before.layout.columns layout.columns)) is) ∙ is_made in
      cc both

  cell_of_made : (row made : Row) (name : Text) (c : Column) → reshaped_row before.layout.columns layout.columns row ≡ made → column_at layout.columns name ≡ Some c
      → cell layout.columns made name ≡ Some (unwrap_or (option_or (cell before.layout.columns row name) (fill c)) value.Null)
  cell_of_made row made name c is at = ap (λ (r : Row). cell layout.columns r name) (sym is) ∙ cell-reshaped before.layout.columns layout.columns row name c at

  stays : (key row made : Row) (name : Text) (v : Value) → fin.get before.rows key ≡ Some row → fin.get after.rows key ≡ Some made → has_column layout.columns name ≡ true → cell before.layout.columns row name ≡ Some v
      → cell layout.columns made name ≡ Some v
  stays key row made name v is is_made has held =
      let found = something_found (λ c. same_name c.name name) layout.columns has in
      cell_of_made row made name found.0 (made_of key row made is is_made) found.1 ∙ ap (λ o. Some (unwrap_or (option_or o (fill found.0)) value.Null)) held

  has_fill : (name : Text) (c : Column) → has_column before.layout.columns name ≡ false → column_at layout.columns name ≡ Some c → is_none (fill c) ≡ false
  has_fill name c lacks at =
      let told = found_is_told (λ c. same_name c.name name) layout.columns c at in
      let nowhere : column_at before.layout.columns c.name ≡ None =
      ap (column_at before.layout.columns) (equal_names c.name name told) ∙ nothing_found (λ c. same_name c.name name) before.layout.columns lacks in
      by nowhere (found_passes (λ c. same_name c.name name) (λ c. not (is_unfit_column before.layout.columns before.rows c)) layout.columns c at all_fit) where
        by : column_at before.layout.columns c.name ≡ None → not (is_unfit_column before.layout.columns before.rows c) ≡ true → is_none (fill c) ≡ false
        by nowhere fits = not_none (is_none (fill c)) (rw nowhere at fits) where
          not_none : (b : Bool) → not b ≡ true → b ≡ false
          not_none true h = absurd (false≢true h)
          not_none false h = refl

  filled : (key made : Row) (name : Text) (c : Column) → fin.get after.rows key ≡ Some made → has_column before.layout.columns name ≡ false → column_at layout.columns name ≡ Some c → (cell layout.columns made name ≡ fill c) × IsSome (fill c)
  filled key made name c is_made lacks at = by (fin.get before.rows key) refl (fill c) refl (has_fill name c lacks at) where
    by : (o : Option Row) → fin.get before.rows key ≡ o → (f : Option Value) → fill c ≡ f → is_none f ≡ false → (cell layout.columns made name ≡ f) × IsSome f
    by None is f filling some = absurd (false≢true (sym (ap is_some is) ∙ sym (there key) ∙ ap is_some is_made))
    by (Some row) is None filling some = absurd (false≢true (sym some))
    by (Some row) is (Some v) filling some = (
      cell_of_made row made name c (made_of key row made is is_made) at ∙ ap (λ o. Some (unwrap_or (option_or o (fill c)) value.Null)) (cell_lacks before.layout.columns row name lacks)
          ∙ ap (λ o. Some (unwrap_or o value.Null)) filling,
      refl,
    )

  pub follows : Follows before after
  follows = record {
    there = there;
    stays = λ key row made name v is is_made has held. subst (λ (t : TableContent). cell t.layout.columns made name ≡ Some v) altered_is (stays key row made name v is is_made (ap (λ (t : TableContent). has_column t.layout.columns name) altered_is ∙ has) held);
    filled = λ key made name c is_made lacks at. let both = filled key made name c is_made lacks (ap (λ (t : TableContent). column_at t.layout.columns name) altered_is ∙ at) in
        (ap (λ (t : TableContent). cell t.layout.columns made name) (sym altered_is) ∙ both.0, both.1);
  }
