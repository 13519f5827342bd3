-- An alteration that isn't refused leaves rows that fit, stand under their own keys, and are apart in unique keys.
use Rattle.std.proofs.Common.{◌≡◌, Bool, true, false, not, ◌&&◌, ◌||◌, List, [], ◌∷◌, length, map, Option, Some, None, Result, Ok, refl, sym, ap, subst, ◌∙◌, inl, inr}
use Rattle.std.specs.Prelude.{is_none, is_some, unwrap_or, ◌⊎◌}
use Rattle.std.specs.Option.{option_map, option_map_or, option_or}
use Rattle.std.specs.List.{list_any, list_all}
use Rattle.std.specs.Cmp.Lexicographic.{pointwise}
use Rattle.std.specs.FinMap as fin
use Rattle.std.specs.FinMap.{get-entries}
use Rattle.std.proofs.lemmas.Bool.{cases_Bool, not-false, and_parts, or_parts, and_from, false≢true, both_ways}
use Rattle.std.proofs.lemmas.List.{length-map}
use Rattle.dm_value.specs.declared.value.Value.{Value}
use Rattle.dm_value.specs.declared.value.Value.TheVariants as value
use Rattle.dm_schema.specs.declared.column.Column.{Column}
use Rattle.dm_schema.specs.declared.column.UniqueKey.{UniqueKey}
use Rattle.dm_schema.specs.Layout.{Layout}
use Rattle.dm_schema.specs.Names.{Text, same_name, column_at, has_column}
use Rattle.dm_schema.specs.Fits.{fits}
use Rattle.dm_schema.specs.Fill.{fill}
use Rattle.dm_schema.specs.KindOrder.{comparable}
use Rattle.dm_schema.specs.Rows.{cell, key_of, values_at}
use Rattle.dm_schema.specs.Schemas.{is_formed, all_columns}
use Rattle.dm_join.proofs.Formed.{formed_parts}
use Rattle.dm_table.specs.Contents.{Row, RowMap, TableContent, AreRows, same_row, agree_in, share_unique, fits_row}
use Rattle.dm_table.specs.Operations.{is_unfit_value}
use Rattle.dm_table.specs.Alterations.{altered, alter_refusals, reshaped, reshaped_row, reshaped_value, has_unfit, is_unfit_column, is_shared}
use Rattle.dm_list.specs.Answer.{first_refusal, unless_refused}
use Rattle.dm_table.specs.declared.fault.TableFault.{TableFault}
use Rattle.dm_table.specs.Following.{Follows}
use Rattle.dm_table.specs.Judging.{altered_rows}
use Rattle.dm_table.proofs.Taken.{not_refused}
use Rattle.dm_table.proofs.ListTests.{list_any-map, each, each_of_two, none_passes, something_found, turned}
use Rattle.dm_table.proofs.CellLaws.{fits_row-map, cell_there, nowhere_lacks, equal_names}
use Rattle.dm_table.proofs.Followed.{get-reshaped, altered_is, same_primary, all_fit, none_shared, cell-reshaped, follows}
use Rattle.dm_table.proofs.KeptRows.{fill_is_fit, fills_fit, entry_tested}

-- the same names in the same order
names_are : (xs ys : List Text) → pointwise same_name xs ys ≡ true → xs ≡ ys
names_are [] [] h = refl
names_are [] (y ∷ ys) h = absurd (false≢true h)
names_are (x ∷ xs) [] h = absurd (false≢true h)
names_are (x ∷ xs) (y ∷ ys) h =
    let parts = and_parts (same_name x y) (pointwise same_name xs ys) h in
    ap (λ (z : Text). z ∷ xs) (equal_names x y parts.0) ∙ ap (λ (zs : List Text). y ∷ zs) (names_are xs ys parts.1)

map_alike : (f g : Text → Value) (p : Text → Bool) (xs : List Text) → list_all p xs ≡ true → ((x : Text) → p x ≡ true → f x ≡ g x) → map f xs ≡ map g xs
map_alike f g p [] all step = refl
map_alike f g p (x ∷ xs) all step =
    let parts = and_parts (p x) (list_all p xs) all in
    ap (λ (v : Value). v ∷ map f xs) (step x parts.0) ∙ ap (λ (vs : List Value). g x ∷ vs) (map_alike f g p xs parts.1 step)

some_value : (o : Option Value) → is_some o ≡ true → (v : Value) × (o ≡ Some v)
some_value None h = absurd (false≢true h)
some_value (Some v) h = (v, refl)

module _ (before : TableContent) (layout : Layout) (after : TableContent) (goes : altered before layout ≡ Ok after) (formed_before : is_formed before.layout ≡ true) (formed : is_formed layout ≡ true) (are : AreRows before.layout before.rows) where
  abbrev made : RowMap
  made = reshaped before.layout.columns layout.columns before.rows

  abbrev reshape : Row → Row
  reshape = reshaped_row before.layout.columns layout.columns

  was : (key a : Row) → fin.get made key ≡ Some a → (row : Row) × (fin.get before.rows key ≡ Some row) × (reshape row ≡ a)
  was key a is = by (fin.get before.rows key) refl (sym (get-reshaped before.layout.columns layout.columns before.rows key) ∙ is) where
    by : (o : Option Row) → fin.get before.rows key ≡ o → option_map reshape o ≡ Some a → (row : Row) × (fin.get before.rows key ≡ Some row) × (reshape row ≡ a)
    by None there h = absurd (cc h)
    by (Some row) there h = (row, there, cc h)

  -- a value that stays fits the new column
  stays_fit : (key row : Row) (c : Column) → fin.get before.rows key ≡ Some row → not (is_unfit_column before.layout.columns before.rows c) ≡ true → fill_is_fit c ≡ true → fits (reshaped_value before.layout.columns row c) c ≡ true
  stays_fit key row c is fine filling = by (column_at before.layout.columns c.name) refl fine where
    by : (o : Option Column) → column_at before.layout.columns c.name ≡ o → not (is_unfit_column before.layout.columns before.rows c) ≡ true → fits (reshaped_value before.layout.columns row c) c ≡ true
    by None nowhere h = new (fill c) refl (turned (is_none (fill c)) (rw nowhere at h)) where
      lacks : cell before.layout.columns row c.name ≡ None
      lacks = nowhere_lacks before.layout.columns row c.name nowhere

      new : (o : Option Value) → fill c ≡ o → is_none o ≡ false → fits (reshaped_value before.layout.columns row c) c ≡ true
      new None is some = absurd (false≢true (sym some))
      new (Some v) is some =
          ap (λ o. fits (unwrap_or (option_or o (fill c)) value.Null) c) lacks ∙ ap (λ o. fits (unwrap_or o value.Null) c) is ∙ sym (ap (λ o. option_map_or (λ v. fits v c) o true) is) ∙ filling
    by (Some old) there h = kept (cell before.layout.columns row c.name) refl where
      none_unfit : has_unfit before.layout.columns before.rows c ≡ false
      none_unfit = (or_parts (not (comparable old.kind c.kind)) (has_unfit before.layout.columns before.rows c) (turned (not (comparable old.kind c.kind) || has_unfit before.layout.columns before.rows c) (rw there at h))).1

      tested : is_unfit_value (cell before.layout.columns row c.name) c ≡ false
      tested = entry_tested (λ e. is_unfit_value (cell before.layout.columns e.1 c.name) c) (fin.entries before.rows) key row (sym (list_any-map (λ row. is_unfit_value (cell before.layout.columns row c.name) c) (λ (e : Row × Row). e.1) (fin.entries before.rows)) ∙ none_unfit)
          (sym (get-entries before.rows key) ∙ is)

      kept : (o : Option Value) → cell before.layout.columns row c.name ≡ o → fits (reshaped_value before.layout.columns row c) c ≡ true
      kept None lacks = absurd (false≢true (sym (ap is_some lacks) ∙ cell_there before.layout.columns row c.name (are.long key row is) (ap is_some there)))
      kept (Some v) has = ap (λ o. fits (unwrap_or (option_or o (fill c)) value.Null) c) has ∙ not-false (fits v c) (sym (ap (λ o. is_unfit_value o c) has) ∙ tested)

  fit_row : (key row : Row) → fin.get before.rows key ≡ Some row → fits_row layout.columns (reshape row) ≡ true
  fit_row key row is =
      fits_row-map (reshaped_value before.layout.columns row) layout.columns
      ∙ each_of_two (λ c. not (is_unfit_column before.layout.columns before.rows c)) fill_is_fit (λ c. fits (reshaped_value before.layout.columns row c) c) (λ c fine filling. stays_fit key row c is fine filling) layout.columns
      (all_fit before layout after goes) (fills_fit layout formed)

  -- a row stands under the same key
  same_key : (key row : Row) → fin.get before.rows key ≡ Some row → key_of layout (reshape row) ≡ key_of before.layout row
  same_key key row is =
      let same = names_are before.layout.primary layout.primary (same_primary before layout after goes) in
      map_alike (λ n. unwrap_or (cell layout.columns (reshape row) n) value.Null) (λ n. unwrap_or (cell before.layout.columns row n) value.Null) (λ n. has_column layout.columns n && has_column before.layout.columns n) layout.primary
      (each_of_two (has_column layout.columns) (has_column before.layout.columns) (λ n. has_column layout.columns n && has_column before.layout.columns n) (λ n p q. and_from (has_column layout.columns n) (has_column before.layout.columns n) p q) layout.primary
      (formed_parts layout formed).primary_stands (ap (all_columns before.layout.columns) (sym same) ∙ (formed_parts before.layout formed_before).primary_stands)) value_stays
      ∙ ap (λ (names : List Text). values_at before.layout.columns row names) (sym same) where
        value_stays : (n : Text) → (has_column layout.columns n && has_column before.layout.columns n) ≡ true → unwrap_or (cell layout.columns (reshape row) n) value.Null ≡ unwrap_or (cell before.layout.columns row n) value.Null
        value_stays n both =
            let parts = and_parts (has_column layout.columns n) (has_column before.layout.columns n) both in
            let column = something_found (λ c. same_name c.name n) layout.columns parts.0 in
            let old = something_found (λ c. same_name c.name n) before.layout.columns parts.1 in
            let v = some_value (cell before.layout.columns row n) (cell_there before.layout.columns row n (are.long key row is) (ap is_some old.1)) in
            ap (λ o. unwrap_or o value.Null) (cell-reshaped before.layout.columns layout.columns row n column.0 column.1)
            ∙ ap (λ o. unwrap_or (option_or o (fill column.0)) value.Null) v.1 ∙ sym (ap (λ o. unwrap_or o value.Null) v.1)

  alone : (k l a b : Row) → fin.get made k ≡ Some a → fin.get made l ≡ Some b → same_row k l ≡ false → share_unique layout a b ≡ false
  alone k l a b is_a is_b other =
      none_passes (λ key. agree_in key layout.columns a b) layout.uniques
      (each (λ key. not (is_shared key layout.columns made)) (λ key. not (agree_in key layout.columns a b)) step layout.uniques (none_shared before layout after goes)) where
        step : (key : UniqueKey) → not (is_shared key layout.columns made) ≡ true → not (agree_in key layout.columns a b) ≡ true
        step key free =
            let one = entry_tested (λ x. list_any (λ y. not (same_row x.0 y.0) && agree_in key layout.columns x.1 y.1) (fin.entries made)) (fin.entries made) k a (turned (is_shared key layout.columns made) free) (sym (get-entries made k) ∙ is_a) in
            let two = entry_tested (λ y. not (same_row k y.0) && agree_in key layout.columns a y.1) (fin.entries made) l b one (sym (get-entries made l) ∙ is_b) in
            ap not (sym (ap (λ t. not t && agree_in key layout.columns a b) other) ∙ two)

  made_are : AreRows layout made
  made_are = record {
    long = λ key a is. let row = was key a is in ap length (sym row.2) ∙ length-map layout.columns (reshaped_value before.layout.columns row.0);
    fit = λ key a is. let row = was key a is in ap (fits_row layout.columns) (sym row.2) ∙ fit_row key row.0 row.1;
    keyed = λ key a is. let row = was key a is in
        ap (λ (r : Row). same_row (key_of layout r) key) (sym row.2) ∙ ap (λ (k : Row). same_row k key) (same_key key row.0 row.1) ∙ are.keyed key row.0 row.1;
    apart = λ k l a b is_a is_b share. by k l a b is_a is_b share (cases_Bool (same_row k l));
  } where
    by : (k l a b : Row) → fin.get made k ≡ Some a → fin.get made l ≡ Some b → share_unique layout a b ≡ true → (same_row k l ≡ true) ⊎ (same_row k l ≡ false) → same_row k l ≡ true
    by k l a b is_a is_b share (inl same) = same
    by k l a b is_a is_b share (inr other) = absurd (both_ways _ (alone k l a b is_a is_b other) share)

  pub altered_keeps : AreRows after.layout after.rows
  altered_keeps = subst (λ (t : TableContent). AreRows t.layout t.rows) (altered_is before layout after goes) made_are

-- The same, of the rows alone.

pub goes_by_rows : (before after : Layout) (rows made : RowMap) → Ok made ≡ altered_rows before rows after → altered (record { layout = before; rows = rows }) after ≡ Ok (record { layout = after; rows = made })
goes_by_rows before after rows made is =
    let parts = not_refused (first_refusal (alter_refusals (record { layout = before; rows = rows }) after)) (reshaped before.columns after.columns rows) made (sym is) in
    ap (λ o. unless_refused o (record { layout = after; rows = reshaped before.columns after.columns rows })) parts.0
    ∙ ap (λ (m : RowMap). let r : Result TableContent TableFault = Ok (record { layout = after; rows = m }) in r) parts.1

pub rows_keep : (before after : Layout) (rows made : RowMap) → is_formed before ≡ true → is_formed after ≡ true → Ok made ≡ altered_rows before rows after → AreRows before rows → AreRows after made
rows_keep before after rows made formed_before formed is are =
    altered_keeps (record { layout = before; rows = rows }) after (record { layout = after; rows = made }) (goes_by_rows before after rows made is) formed_before formed are

pub rows_follow : (before after given : Layout) (rows made : RowMap) (table : TableContent) → Ok made ≡ altered_rows before rows after → record { layout = before; rows = rows } ≡ table → given ≡ after → Follows table (record { layout = given; rows = made })
rows_follow before after given rows made table is seen copied =
    subst (λ (t : TableContent). Follows t (record { layout = given; rows = made })) seen
    (subst (λ (l : Layout). Follows (record { layout = before; rows = rows }) (record { layout = l; rows = made })) (sym copied)
    (follows (record { layout = before; rows = rows }) after (record { layout = after; rows = made }) (goes_by_rows before after rows made is)))
