-- A map without some of its entries.
use Rattle.std.proofs.Common.{◌≡◌, Bool, true, false, cond, not, ◌||◌, List, [], ◌∷◌, Option, Some, None, refl, sym, ap, ◌∙◌}
use Rattle.std.specs.Prelude.{T, option_and_then}
use Rattle.std.specs.Option.{option_map_or}
use Rattle.std.specs.List.{filter}
use Rattle.std.specs.FinMap as fin
use Rattle.std.specs.FinMap.{find, get-from_entries, get-entries, entries_sorted}
use Rattle.std.specs.FinMap.Entries.{is_sorted}
use Rattle.std.proofs.lemmas.Cmp.{eq_by_cmp_equiv}
use Rattle.dm_value.specs.Order.{row_cmp}
use Rattle.dm_value.proofs.OrderLemmas.{row_total, row_exact}
use Rattle.dm_schema.specs.Layout.{Layout}
use Rattle.dm_schema.specs.Rows.{key_of}
use Rattle.dm_table.specs.Contents.{Row, RowMap, same_row, share_unique}
use Rattle.dm_table.specs.Operations.{without_sharing}
use Rattle.dm_table.proofs.Entries.{apart, first, second, tied}

pub same_is_same : (a b : Row) → same_row a b ≡ true → a ≡ b
same_is_same a b h = row_exact a b (tied (row_cmp a b) h)

pub same_turned : (a b : Row) → same_row a b ≡ same_row b a
same_turned a b = (eq_by_cmp_equiv row_total).symm a b

pub same_itself : (a : Row) → same_row a a ≡ true
same_itself a = (eq_by_cmp_equiv row_total).refl a

-- a row that passes, or none
abbrev pub kept : (Row × Row → Bool) → Row → Option Row → Option Row
kept p q found = option_and_then (λ r. cond (p (q, r)) (Some r) None) found

find-filter : (p : Row × Row → Bool) (q : Row) (es : List (Row × Row)) → T (is_sorted row_cmp es) → find row_cmp q (filter p es) ≡ kept p q (find row_cmp q es)
find-filter p q [] h = refl
find-filter p q (e ∷ es) h = by (p e) (same_row q e.0) refl refl (find-filter p q es (second _ _ h)) where
  here : same_row q e.0 ≡ true → (q, e.1) ≡ e
  here same = ap (λ (k : Row). (k, e.1)) (same_is_same q e.0 same)

  gone : same_row q e.0 ≡ true → find row_cmp q es ≡ None
  gone same = ap (λ (k : Row). find row_cmp k es) (same_is_same q e.0 same) ∙ apart e.0 es (first _ _ h)

  by : (b s : Bool) → p e ≡ b → same_row q e.0 ≡ s → find row_cmp q (filter p es) ≡ kept p q (find row_cmp q es)
      → find row_cmp q (cond b (e ∷ filter p es) (filter p es)) ≡ kept p q (cond s (Some e.1) (find row_cmp q es))
  by true true passes same rest = ap (λ t. cond t (Some e.1) (find row_cmp q (filter p es))) same ∙ sym (ap (λ t. cond t (Some e.1) None) (ap p (here same) ∙ passes))
  by true false passes other rest = ap (λ t. cond t (Some e.1) (find row_cmp q (filter p es))) other ∙ rest
  by false true fails same rest = rest ∙ ap (kept p q) (gone same) ∙ sym (ap (λ t. cond t (Some e.1) None) (ap p (here same) ∙ fails))
  by false false fails other rest = rest

pub get-filter : (p : Row × Row → Bool) (m : RowMap) (q : Row) → fin.get (fin.from_entries {R = row_cmp} (filter p (fin.entries m))) q ≡ kept p q (fin.get m q)
get-filter p m q = get-from_entries row_total (filter p (fin.entries m)) q ∙ find-filter p q (fin.entries m) (entries_sorted m) ∙ ap (kept p q) (sym (get-entries m q))

-- what doesn't share a key with a row stays
pub stays_apart : (layout : Layout) (row : Row) (rows : RowMap) (q : Row) → same_row (key_of layout row) q ≡ false → option_map_or (share_unique layout row) (fin.get rows q) false ≡ false
    → fin.get (without_sharing layout row rows) q ≡ fin.get rows q
stays_apart layout row rows q other alone = get-filter (λ e. not (same_row (key_of layout row) e.0 || share_unique layout row e.1)) rows q ∙ by (fin.get rows q) alone where
  by : (o : Option Row) → option_map_or (share_unique layout row) o false ≡ false → kept (λ e. not (same_row (key_of layout row) e.0 || share_unique layout row e.1)) q o ≡ o
  by None h = refl
  by (Some r) h = ap (λ t. cond (not (t || share_unique layout row r)) (Some r) None) other ∙ ap (λ t. cond (not t) (Some r) None) h

-- what is kept was there, and passes
pub kept_passes : (p : Row × Row → Bool) (q : Row) (o : Option Row) (r : Row) → kept p q o ≡ Some r → (o ≡ Some r) × (p (q, r) ≡ true)
kept_passes p q None r is = absurd (cc is)
kept_passes p q (Some s) r is = by (p (q, s)) refl is where
  by : (b : Bool) → p (q, s) ≡ b → cond b (Some s) None ≡ Some r → (Some s ≡ Some r) × (p (q, r) ≡ true)
  by true told e = let same : s ≡ r = cc e in (e, ap (λ (x : Row). p (q, x)) (sym same) ∙ told)
  by false told e = absurd (cc e)
