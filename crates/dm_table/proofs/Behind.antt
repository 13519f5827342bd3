-- The rows behind the changes that are noted of them.
use Rattle.std.proofs.Common.{◌≡◌, Bool, true, false, cond, List, [], ◌∷◌, Option, Some, None, refl, sym, ap, ◌∙◌}
use Rattle.std.specs.Prelude.{T, unwrap_or}
use Rattle.std.specs.FinMap as fin
use Rattle.std.specs.FinMap.{find, get-entries, get-insert, get-remove, get-empty, entries_sorted, same_map}
use Rattle.std.specs.FinMap.Entries.{is_sorted}
use Rattle.dm_value.specs.Order.{row_cmp}
use Rattle.dm_value.proofs.OrderLemmas.{row_total, row_exact}
use Rattle.dm_table.specs.Contents.{Row, RowMap, same_row}
use Rattle.dm_table.specs.Staging.{ChangeMap, Staging, changed, carried, rows_behind}
use Rattle.dm_table.proofs.Entries.{apart, first, second}
use Rattle.dm_table.proofs.Filtered.{same_is_same}

-- a key's row behind one change
pub get-changed : (m : RowMap) (k : Row) (change : Option Row) (q : Row) → fin.get (changed m k change) q ≡ cond (same_row q k) change (fin.get m q)
get-changed m k None q = get-remove row_total m k q
get-changed m k (Some row) q = get-insert row_total m k row q

-- a key's row behind sorted changes
carried_at : (es : List (Row × Option Row)) (m : RowMap) (q : Row) → T (is_sorted row_cmp es) → fin.get (carried es m) q ≡ unwrap_or (find row_cmp q es) (fin.get m q)
carried_at [] m q h = refl
carried_at (e ∷ es) m q h = carried_at es (changed m e.0 e.1) q (second _ _ h) ∙ ap (unwrap_or (find row_cmp q es)) (get-changed m e.0 e.1 q) ∙ by (same_row q e.0) refl where
  by : (b : Bool) → same_row q e.0 ≡ b → unwrap_or (find row_cmp q es) (cond b e.1 (fin.get m q)) ≡ unwrap_or (cond b (Some e.1) (find row_cmp q es)) (fin.get m q)
  by true same = ap (λ o. unwrap_or o e.1) (ap (λ (k : Row). find row_cmp k es) (same_is_same q e.0 same) ∙ apart e.0 es (first _ _ h))
  by false other = refl

-- a key's row behind changes: that of its change, or else what stood there
pub get-carried : (changes : ChangeMap) (m : RowMap) (q : Row) → fin.get (carried (fin.entries changes) m) q ≡ unwrap_or (fin.get changes q) (fin.get m q)
get-carried changes m q = carried_at (fin.entries changes) m q (entries_sorted changes) ∙ ap (λ o. unwrap_or o (fin.get m q)) (sym (get-entries changes q))

-- of a key whose change is noted, and of one that has none
pub left_behind : (s : Staging) (q : Row) (change : Option Row) → fin.get s.changes q ≡ Some change → fin.get (rows_behind s) q ≡ change
left_behind s q change touched = get-carried s.changes s.base q ∙ ap (λ o. unwrap_or o (fin.get s.base q)) touched

pub kept_behind : (s : Staging) (q : Row) → fin.get s.changes q ≡ None → fin.get (rows_behind s) q ≡ fin.get s.base q
kept_behind s q untouched = get-carried s.changes s.base q ∙ ap (λ o. unwrap_or o (fin.get s.base q)) untouched

-- no change
pub nothing_carried : (m : RowMap) → carried (fin.entries (fin.empty {X = Option Row} {R = row_cmp})) m ≡ m
nothing_carried m = same_map row_total row_exact (carried (fin.entries (fin.empty {X = Option Row} {R = row_cmp})) m) m (λ q. get-carried fin.empty m q ∙ ap (λ o. unwrap_or o (fin.get m q)) (get-empty row_cmp q))

-- a key's row behind one more change
noted_at : (b : Bool) (change : Option Row) (found : Option (Option Row)) (there : Option Row) → unwrap_or (cond b (Some change) found) there ≡ cond b change (unwrap_or found there)
noted_at true change found there = refl
noted_at false change found there = refl

-- one more change
pub noted : (before after : Staging) (k : Row) (change : Option Row) → after.base ≡ before.base → after.changes ≡ fin.insert before.changes k change → rows_behind after ≡ changed (rows_behind before) k change
noted before after k change base put = same_map row_total row_exact _ _ (λ q.
    get-carried after.changes after.base q ∙ ap (λ (m : RowMap). unwrap_or (fin.get after.changes q) (fin.get m q)) base
    ∙ ap (λ (o : Option (Option Row)). unwrap_or o (fin.get before.base q)) (ap (λ (m : ChangeMap). fin.get m q) put ∙ get-insert row_total before.changes k change q) ∙ noted_at (same_row q k) change (fin.get before.changes q) (fin.get before.base q)
    ∙ sym (get-changed (rows_behind before) k change q ∙ ap (cond (same_row q k) change) (get-carried before.changes before.base q)))
