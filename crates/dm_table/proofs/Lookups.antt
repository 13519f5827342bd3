-- Tests over the entries of a map, and what is found under a key.
use Rattle.std.proofs.Common.{◌≡◌, Bool, true, false, cond, ◌||◌, List, [], ◌∷◌, map, Some, None, refl, sym, ap, ◌∙◌}
use Rattle.std.specs.Prelude.{T}
use Rattle.std.specs.Option.{option_map_or}
use Rattle.std.specs.List.{list_any, filter}
use Rattle.std.specs.FinMap as fin
use Rattle.std.specs.FinMap.{FinMap, find, get-entries, entries_sorted}
use Rattle.std.specs.FinMap.Entries.{is_sorted}
use Rattle.std.proofs.lemmas.Bool.{false≢true, or_right}
use Rattle.dm_value.specs.Order.{row_cmp}
use Rattle.dm_table.specs.Contents.{Row, same_row}
use Rattle.dm_table.specs.Staging.{keys_where}
use Rattle.dm_table.proofs.Entries.{apart, first, second}
use Rattle.dm_table.proofs.Filtered.{same_is_same, same_itself}

-- an entry that passes, found under its key
pub record Passes {X : Type 0} (p : Row × X → Bool) (m : FinMap row_cmp X) : Type 0 where
  pub key : Row
  pub value : X
  pub stands : fin.get m key ≡ Some value
  pub passes : p (key, value) ≡ true

-- the key of another entry isn't that of the first
pub behind_first : {X : Type 0} (e : Row × X) (es : List (Row × X)) (k : Row) (v : X) → T (is_sorted row_cmp (e ∷ es)) → find row_cmp k es ≡ Some v → find row_cmp k (e ∷ es) ≡ Some v
behind_first e es k v h is = by (same_row k e.0) refl where
  by : (b : Bool) → same_row k e.0 ≡ b → cond b (Some e.1) (find row_cmp k es) ≡ Some v
  by true same = let none : Some v ≡ None = sym is ∙ ap (λ (q : Row). find row_cmp q es) (same_is_same k e.0 same) ∙ apart e.0 es (first _ _ h) in absurd (cc none)
  by false other = is

-- of sorted entries one that passes is found under its key
found_where : {X : Type 0} (p : Row × X → Bool) (es : List (Row × X)) → T (is_sorted row_cmp es) → list_any p es ≡ true → (k : Row) × (v : X) × (find row_cmp k es ≡ Some v) × (p (k, v) ≡ true)
found_where p [] h any = absurd (false≢true any)
found_where {X = X} p (e ∷ es) h any = by (p e) refl any (found_where p es (second _ _ h)) where
  by : (b : Bool) → p e ≡ b → (b || list_any p es) ≡ true → (list_any p es ≡ true → (k : Row) × (v : X) × (find row_cmp k es ≡ Some v) × (p (k, v) ≡ true))
      → (k : Row) × (v : X) × (find row_cmp k (e ∷ es) ≡ Some v) × (p (k, v) ≡ true)
  by true told any rest = (e.0, e.1, ap (λ b. cond b (Some e.1) (find row_cmp e.0 es)) (same_itself e.0), told)
  by false told any rest = let r = rest any in (r.0, r.1, behind_first e es r.0 r.1 h r.2, r.3)

-- the same of a map's entries
pub some_passes : {X : Type 0} (p : Row × X → Bool) (m : FinMap row_cmp X) → list_any p (fin.entries m) ≡ true → Passes p m
some_passes p m any = let r = found_where p (fin.entries m) (entries_sorted m) any in record { key = r.0; value = r.1; stands = get-entries m r.0 ∙ r.2; passes = r.3 }

-- what is found under a key and passes is among the entries that do
any_where : {X : Type 0} (p : Row × X → Bool) (es : List (Row × X)) (k : Row) (v : X) → find row_cmp k es ≡ Some v → p (k, v) ≡ true → list_any p es ≡ true
any_where p [] k v is told = absurd (cc is)
any_where p (e ∷ es) k v is told = by (same_row k e.0) refl is (any_where p es k v) where
  by : (b : Bool) → same_row k e.0 ≡ b → cond b (Some e.1) (find row_cmp k es) ≡ Some v → (find row_cmp k es ≡ Some v → p (k, v) ≡ true → list_any p es ≡ true) → (p e || list_any p es) ≡ true
  by true same h rest =
      let value : e.1 ≡ v = cc h in
      ap (λ b. b || list_any p es) (ap (λ (q : Row). p (q, e.1)) (sym (same_is_same k e.0 same)) ∙ ap (λ x. p (k, x)) value ∙ told)
  by false other h rest = or_right (p e) (list_any p es) (rest h told)

-- the same of a map's entries
pub passes_some : {X : Type 0} (p : Row × X → Bool) (m : FinMap row_cmp X) (k : Row) (v : X) → fin.get m k ≡ Some v → p (k, v) ≡ true → list_any p (fin.entries m) ≡ true
passes_some p m k v is told = any_where p (fin.entries m) k v (sym (get-entries m k) ∙ is) told

-- whether a key is among those of the entries that pass
key_where : {X : Type 0} (p : Row × X → Bool) (q : Row) (es : List (Row × X)) → T (is_sorted row_cmp es) → list_any (same_row q) (keys_where p es) ≡ option_map_or (λ v. p (q, v)) (find row_cmp q es) false
key_where p q [] h = refl
key_where p q (e ∷ es) h = by (p e) (same_row q e.0) refl refl (key_where p q es (second _ _ h)) where
  here : same_row q e.0 ≡ true → (q, e.1) ≡ e
  here same = ap (λ (k : Row). (k, e.1)) (same_is_same q e.0 same)

  gone : same_row q e.0 ≡ true → find row_cmp q es ≡ None
  gone same = ap (λ (k : Row). find row_cmp k es) (same_is_same q e.0 same) ∙ apart e.0 es (first _ _ h)

  by : (b s : Bool) → p e ≡ b → same_row q e.0 ≡ s → list_any (same_row q) (keys_where p es) ≡ option_map_or (λ v. p (q, v)) (find row_cmp q es) false
      → list_any (same_row q) (map (λ e. e.0) (cond b (e ∷ filter p es) (filter p es))) ≡ option_map_or (λ v. p (q, v)) (cond s (Some e.1) (find row_cmp q es)) false
  by true true passes same rest = ap (λ b. b || list_any (same_row q) (keys_where p es)) same ∙ sym (ap p (here same) ∙ passes)
  by true false passes other rest = ap (λ b. b || list_any (same_row q) (keys_where p es)) other ∙ rest
  by false true fails same rest = rest ∙ ap (λ o. option_map_or (λ v. p (q, v)) o false) (gone same) ∙ sym (ap p (here same) ∙ fails)
  by false false fails other rest = rest

-- the same of a map's entries
pub key_among : {X : Type 0} (p : Row × X → Bool) (m : FinMap row_cmp X) (q : Row) → list_any (same_row q) (keys_where p (fin.entries m)) ≡ option_map_or (λ v. p (q, v)) (fin.get m q) false
key_among p m q = key_where p q (fin.entries m) (entries_sorted m) ∙ ap (λ o. option_map_or (λ v. p (q, v)) o false) (sym (get-entries m q))
