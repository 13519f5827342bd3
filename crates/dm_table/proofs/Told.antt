-- What an index tells of rows that agree in a unique key.
use Rattle.std.proofs.Common.{◌≡◌, Bool, true, false, cond, not, ◌&&◌, ◌||◌, List, [], ◌∷◌, ◌++◌, Option, Some, None, refl, sym, ap, subst, ◌∙◌, inl, inr}
use Rattle.std.specs.Prelude.{option_and_then}
use Rattle.std.specs.Option.{option_map_or}
use Rattle.std.specs.List.{list_any, filter_map, cons_option}
use Rattle.std.specs.FinMap as fin
use Rattle.std.specs.Cmp.{both_ways as equal_tests}
use Rattle.std.specs.FinMap.{get-insert, get-remove, get-empty}
use Rattle.std.proofs.lemmas.Bool.{false≢true, and_parts, and_from, or_parts, both_ways, cond-true, cond-false}
use Rattle.dm_value.specs.declared.value.Value.TheVariants as value
use Rattle.dm_value.specs.Order.{row_cmp}
use Rattle.dm_value.proofs.OrderLemmas.{row_total}
use Rattle.dm_schema.specs.declared.column.Column.{Column}
use Rattle.dm_schema.specs.declared.column.UniqueKey.{UniqueKey}
use Rattle.dm_schema.specs.Kinds.{is_null}
use Rattle.dm_schema.specs.Layout.{Layout}
use Rattle.dm_schema.specs.Names.{same_name}
use Rattle.dm_schema.specs.Schemas.{is_formed, key_repeats}
use Rattle.dm_join.proofs.Lists.{IsIn, any_of, any_from, none_of}
use Rattle.dm_join.proofs.Formed.{formed_parts}
use Rattle.dm_join.proofs.NameLemmas.{same_from, same_back}
use Rattle.dm_table.specs.Contents.{Row, RowMap, AreRows, same_row, agree_in, share_unique}
use Rattle.dm_schema.specs.Keys.{key_number}
use Rattle.dm_schema.specs.NameOrder.{uniques_in_order}
use Rattle.dm_join.proofs.Orders.{from_ordered}
use Rattle.dm_table.specs.declared.op.RowOp.{RowOp}
use Rattle.dm_table.specs.declared.fault.TableFault.TheVariants as fault
use Rattle.dm_table.specs.Operations.{is_other, needs_room, is_unique_taken}
use Rattle.dm_table.specs.Judging.{told_refusals, is_told_taken, unique_refusals}
use Rattle.dm_table.specs.Staging.{removed_all}
use Rattle.dm_table.proofs.Lookups.{some_passes, passes_some}
use Rattle.dm_table.specs.Seeing.{under, has_values}
use Rattle.dm_table.specs.Indexing.{AreIndexed, Tells, entry_of, some_entry, entries_of, all_noted, confirmed, told_place, told_places}
use Rattle.dm_table.proofs.Filtered.{same_is_same, same_itself, same_turned}
use Rattle.dm_table.proofs.KeptRows.{no_rows}
use Rattle.dm_table.proofs.Room.{get-removed_all}

-- Entries.

-- lists that end alike
pub same_ends : {A : Type 0} (xs ys : List A) (a b : A) → xs ++ a ∷ [] ≡ ys ++ b ∷ [] → (xs ≡ ys) × (a ≡ b)
same_ends [] [] a b e = (refl, cc e)
same_ends [] (y ∷ []) a b e = let none : [] ≡ b ∷ [] = cc e in absurd (cc none)
same_ends [] (y ∷ z ∷ ys) a b e = let none : [] ≡ z ∷ (ys ++ b ∷ []) = cc e in absurd (cc none)
same_ends (x ∷ []) [] a b e = let none : a ∷ [] ≡ [] = cc e in absurd (cc none)
same_ends (x ∷ z ∷ xs) [] a b e = let none : z ∷ (xs ++ a ∷ []) ≡ [] = cc e in absurd (cc none)
same_ends (x ∷ xs) (y ∷ ys) a b e =
    let first : x ≡ y = cc e in
    let rest : xs ++ a ∷ [] ≡ ys ++ b ∷ [] = cc e in
    let r = same_ends xs ys a b rest in
    (ap (λ (z : _). z ∷ xs) first ∙ ap (λ zs. y ∷ zs) r.0, r.1)

-- a row's entry under a key that it has values under
pub has_entry : (key : UniqueKey) (columns : List Column) (row : Row) → has_values key columns row ≡ true → some_entry key columns row ≡ Some (entry_of key columns row)
has_entry key columns row has = ap (λ b. cond b (Some (entry_of key columns row)) None) has

module _ (columns : List Column) (row : Row) where
  abbrev entries : List UniqueKey → List Row
  entries keys = filter_map (λ key. some_entry key columns row) keys

  pub entry_among : (keys : List UniqueKey) (key : UniqueKey) → IsIn key keys → has_values key columns row ≡ true → list_any (same_row (entry_of key columns row)) (entries keys) ≡ true
  entry_among [] key among has = absurd among
  entry_among (k ∷ keys) key (inl is) has =
      ap (λ (o : Option Row). list_any (same_row (entry_of key columns row)) (cons_option o (entries keys))) (ap (λ (q : UniqueKey). some_entry q columns row) is ∙ has_entry key columns row has)
      ∙ ap (λ b. b || list_any (same_row (entry_of key columns row)) (entries keys)) (same_itself (entry_of key columns row))
  entry_among (k ∷ keys) key (inr among) has = by (some_entry k columns row) (entry_among keys key among has) where
    by : (o : Option Row) → list_any (same_row (entry_of key columns row)) (entries keys) ≡ true → list_any (same_row (entry_of key columns row)) (cons_option o (entries keys)) ≡ true
    by None rest = rest
    by (Some e) rest = other (same_row (entry_of key columns row) e) where
      other : (b : Bool) → (b || list_any (same_row (entry_of key columns row)) (entries keys)) ≡ true
      other true = refl
      other false = rest

  pub entry_from : (keys : List UniqueKey) (e : Row) → list_any (same_row e) (entries keys) ≡ true → (key : UniqueKey) × IsIn key keys × (has_values key columns row ≡ true) × (e ≡ entry_of key columns row)
  entry_from [] e any = absurd (false≢true any)
  entry_from (k ∷ keys) e any = by (has_values k columns row) refl any (entry_from keys e) where
    by : (b : Bool) → has_values k columns row ≡ b → list_any (same_row e) (cons_option (cond b (Some (entry_of k columns row)) None) (entries keys)) ≡ true
        → (list_any (same_row e) (entries keys) ≡ true → (key : UniqueKey) × IsIn key keys × (has_values key columns row ≡ true) × (e ≡ entry_of key columns row))
        → (key : UniqueKey) × IsIn key (k ∷ keys) × (has_values key columns row ≡ true) × (e ≡ entry_of key columns row)
    by false lacks told rest = let r = rest told in (r.0, inr r.1, r.2, r.3)
    by true has told rest = here (same_row e (entry_of k columns row)) refl told where
      here : (b : Bool) → same_row e (entry_of k columns row) ≡ b → (b || list_any (same_row e) (entries keys)) ≡ true → (key : UniqueKey) × IsIn key (k ∷ keys) × (has_values key columns row ≡ true) × (e ≡ entry_of key columns row)
      here true same t = (k, inl refl, has, same_is_same e (entry_of k columns row) same)
      here false other t = let r = rest t in (r.0, inr r.1, r.2, r.3)

-- keys of one name are one key
same_key : (keys : List UniqueKey) (a b : UniqueKey) → key_repeats keys ≡ false → IsIn a keys → IsIn b keys → same_name a.name b.name ≡ true → a ≡ b
same_key [] a b apart in_a in_b same = absurd in_a
same_key (k ∷ keys) a b apart (inl is_a) (inl is_b) same = sym is_a ∙ is_b
same_key (k ∷ keys) a b apart (inl is_a) (inr in_b) same =
    absurd (both_ways _ (none_of (λ (q : UniqueKey). same_name k.name q.name) keys b (or_parts _ _ apart).0 in_b) (ap (λ (q : UniqueKey). same_name q.name b.name) is_a ∙ same))
same_key (k ∷ keys) a b apart (inr in_a) (inl is_b) same =
    absurd (both_ways _ (none_of (λ (q : UniqueKey). same_name k.name q.name) keys a (or_parts _ _ apart).0 in_a) (ap (λ (q : UniqueKey). same_name q.name a.name) is_b ∙ same_back b.name a.name ∙ same))
same_key (k ∷ keys) a b apart (inr in_a) (inr in_b) same = same_key keys a b (or_parts _ _ apart).1 in_a in_b same

-- rows with an entry in common agree in a unique key
pub common_entry : (layout : Layout) (a b e : Row) → is_formed layout ≡ true → list_any (same_row e) (entries_of layout a) ≡ true → list_any (same_row e) (entries_of layout b) ≡ true → share_unique layout a b ≡ true
common_entry layout a b e formed of_a of_b = any_of (λ key. agree_in key layout.columns a b) layout.uniques p.0 p.1 agree where
  p : (key : UniqueKey) × IsIn key layout.uniques × (has_values key layout.columns a ≡ true) × (e ≡ entry_of key layout.columns a)
  p = entry_from layout.columns a layout.uniques e of_a

  q : (key : UniqueKey) × IsIn key layout.uniques × (has_values key layout.columns b ≡ true) × (e ≡ entry_of key layout.columns b)
  q = entry_from layout.columns b layout.uniques e of_b

  ends : (under p.0 layout.columns a ≡ under q.0 layout.columns b) × (value.Bytes p.0.name ≡ value.Bytes q.0.name)
  ends = same_ends (under p.0 layout.columns a) (under q.0 layout.columns b) (value.Bytes p.0.name) (value.Bytes q.0.name) (sym p.3 ∙ q.3)

  name : p.0.name ≡ q.0.name
  name = cc ends.1

  key : p.0 ≡ q.0
  key = same_key layout.uniques p.0 q.0 (formed_parts layout formed).keys_apart p.1 q.1 (same_from p.0.name q.0.name name)

  values : under p.0 layout.columns a ≡ under p.0 layout.columns b
  values = ends.0 ∙ ap (λ (k : UniqueKey). under k layout.columns b) (sym key)

  agree : agree_in p.0 layout.columns a b ≡ true
  agree = and_from (has_values p.0 layout.columns a) (same_row (under p.0 layout.columns a) (under p.0 layout.columns b)) p.2 (ap (same_row (under p.0 layout.columns a)) (sym values) ∙ same_itself (under p.0 layout.columns a))

-- An index that changes with its rows.

pub get-all_noted : (place : Row) (entries : List Row) (index : RowMap) (q : Row) → fin.get (all_noted place entries index) q ≡ cond (list_any (same_row q) entries) (Some place) (fin.get index q)
get-all_noted place [] index q = refl
get-all_noted place (e ∷ es) index q =
    get-all_noted place es (fin.insert index e place) q ∙ ap (cond (list_any (same_row q) es) (Some place)) (get-insert row_total index e place q) ∙ by (same_row q e) (list_any (same_row q) es) where
      by : (a b : Bool) → cond b (Some place) (cond a (Some place) (fin.get index q)) ≡ cond (a || b) (Some place) (fin.get index q)
      by true true = refl
      by true false = refl
      by false b = refl

-- without rows
pub tells_nothing : (layout : Layout) → Tells layout fin.empty fin.empty
tells_nothing layout place row entry is among = let none : None ≡ Some row = sym (get-empty row_cmp place) ∙ is in absurd (cc none)

pub nothing_indexed : (layout : Layout) (rows index : RowMap) → rows ≡ fin.empty → index ≡ fin.empty → AreIndexed layout rows index
nothing_indexed layout rows index none empty =
    subst (λ (m : RowMap). AreIndexed layout m index) (sym none) (subst (λ (m : RowMap). AreIndexed layout fin.empty m) (sym empty) (record { are = no_rows layout; told = tells_nothing layout }))

module _ (layout : Layout) (rows index : RowMap) (told : Tells layout rows index) where
  -- without the row of a key
  stays : (k place row : Row) → fin.get (fin.remove rows k) place ≡ Some row → (same_row place k ≡ false) × (fin.get rows place ≡ Some row)
  stays k place row is = by (same_row place k) refl where
    by : (b : Bool) → same_row place k ≡ b → (same_row place k ≡ false) × (fin.get rows place ≡ Some row)
    by true same = let none : None ≡ Some row = sym (get-remove row_total rows k place ∙ cond-true (same_row place k) None (fin.get rows place) same) ∙ is in absurd (cc none)
    by false other = (other, sym (get-remove row_total rows k place ∙ cond-false (same_row place k) None (fin.get rows place) other) ∙ is)

  pub tells_without : (k : Row) → fin.get rows k ≡ None → Tells layout (fin.remove rows k) index
  tells_without k none place row entry is among = told place row entry (stays k place row is).1 among

  pub tells_removed : (k old : Row) (entries : List Row) → fin.get rows k ≡ Some old → entries ≡ entries_of layout old → Tells layout (fin.remove rows k) (removed_all entries index)
  tells_removed k old entries stood are place row entry is among = get-removed_all entries index entry ∙ by (list_any (same_row entry) entries) refl where
    here : (same_row place k ≡ false) × (fin.get rows place ≡ Some row)
    here = stays k place row is

    by : (b : Bool) → list_any (same_row entry) entries ≡ b → cond b None (fin.get index entry) ≡ Some place
    by true of_old =
        let both : Some place ≡ Some k = sym (told place row entry here.1 among) ∙ told k old entry stood (ap (list_any (same_row entry)) (sym are) ∙ of_old) in
        let same : place ≡ k = cc both in
        absurd (both_ways _ here.0 (ap (same_row place) (sym same) ∙ same_itself place))
    by false other = told place row entry here.1 among

  -- with a row more
  pub tells_put : (k new : Row) (entries : List Row) → is_formed layout ≡ true → AreRows layout (fin.insert rows k new) → entries ≡ entries_of layout new → Tells layout (fin.insert rows k new) (all_noted k entries index)
  tells_put k new entries formed are made place row entry is among = get-all_noted k entries index entry ∙ by (same_row place k) (list_any (same_row entry) entries) refl refl where
    at : fin.get (fin.insert rows k new) place ≡ cond (same_row place k) (Some new) (fin.get rows place)
    at = get-insert row_total rows k new place

    by : (s b : Bool) → same_row place k ≡ s → list_any (same_row entry) entries ≡ b → cond b (Some k) (fin.get index entry) ≡ Some place
    by true true same of_new = ap Some (sym (same_is_same place k same))
    by true false same other =
        let both : Some new ≡ Some row = sym (at ∙ cond-true (same_row place k) (Some new) (fin.get rows place) same) ∙ is in
        let row_is : new ≡ row = cc both in
        absurd (both_ways _ other (ap (list_any (same_row entry)) (made ∙ ap (entries_of layout) row_is) ∙ among))
    by false true differs of_new =
        let stands : fin.get (fin.insert rows k new) k ≡ Some new = get-insert row_total rows k new k ∙ cond-true (same_row k k) (Some new) (fin.get rows k) (same_itself k) in
        let shared = common_entry layout new row entry formed (ap (list_any (same_row entry)) (sym made) ∙ of_new) among in
        absurd (both_ways _ differs (same_turned place k ∙ are.apart k place new row stands is shared))
    by false false differs other = told place row entry (sym (at ∙ cond-false (same_row place k) (Some new) (fin.get rows place) differs) ∙ is) among

-- the same of what the changes left
pub put_tells : (layout : Layout) (rows index now index_now : RowMap) (k new : Row) (entries : List Row) → is_formed layout ≡ true → entries ≡ entries_of layout new → now ≡ fin.insert rows k new → index_now ≡ all_noted k entries index
    → AreRows layout now → Tells layout rows index → Tells layout now index_now
put_tells layout rows index now index_now k new entries formed made put noted are told =
    subst (λ (m : RowMap). Tells layout m index_now) (sym put)
    (subst (Tells layout (fin.insert rows k new)) (sym noted) (tells_put layout rows index told k new entries formed (subst (AreRows layout) put are) made))

-- without unique keys
pub tells_none : (layout : Layout) (rows index : RowMap) → layout.uniques ≡ [] → Tells layout rows index
tells_none layout rows index none place row entry stands among =
    absurd (false≢true (sym (ap (λ (keys : List UniqueKey). list_any (same_row entry) (filter_map (λ key. some_entry key layout.columns row) keys)) none) ∙ among))

-- An index that is asked.

module _ (layout : Layout) (rows index : RowMap) (row : Row) (told : Tells layout rows index) where
  abbrev place_in : UniqueKey → Option Row
  place_in key = told_place key layout.columns rows index row

  -- a row that agrees is found
  pub is_told : (key : UniqueKey) (q b : Row) → IsIn key layout.uniques → fin.get rows q ≡ Some b → agree_in key layout.columns row b ≡ true → place_in key ≡ Some q
  is_told key q b among stands agree =
      ap (λ o. option_and_then (confirmed key layout.columns rows row) (option_and_then (fin.get index) o)) (has_entry key layout.columns row parts.0)
      ∙ ap (option_and_then (confirmed key layout.columns rows row)) (ap (fin.get index) same_entry ∙ told q b (entry_of key layout.columns b) stands (entry_among layout.columns b layout.uniques key among has))
      ∙ ap (option_and_then (λ other. cond (agree_in key layout.columns row other) (Some q) None)) stands ∙ ap (λ t. cond t (Some q) None) agree where
        parts : (has_values key layout.columns row ≡ true) × (same_row (under key layout.columns row) (under key layout.columns b) ≡ true)
        parts = and_parts (has_values key layout.columns row) (same_row (under key layout.columns row) (under key layout.columns b)) agree

        values : under key layout.columns row ≡ under key layout.columns b
        values = same_is_same (under key layout.columns row) (under key layout.columns b) parts.1

        same_entry : entry_of key layout.columns row ≡ entry_of key layout.columns b
        same_entry = ap (λ (vs : Row). vs ++ value.Bytes key.name ∷ []) values

        has : has_values key layout.columns b ≡ true
        has = ap (λ (vs : Row). not (list_any is_null vs)) (sym values) ∙ parts.0

  -- what is found agrees
  pub told_agrees : (key : UniqueKey) (q : Row) → place_in key ≡ Some q → (b : Row) × (fin.get rows q ≡ Some b) × (agree_in key layout.columns row b ≡ true)
  told_agrees key q is = by (option_and_then (fin.get index) (some_entry key layout.columns row)) is where
    by : (o : Option Row) → option_and_then (confirmed key layout.columns rows row) o ≡ Some q → (b : Row) × (fin.get rows q ≡ Some b) × (agree_in key layout.columns row b ≡ true)
    by None e = absurd (cc e)
    by (Some place) e = at (fin.get rows place) refl e where
      at : (o : Option Row) → fin.get rows place ≡ o → option_and_then (λ other. cond (agree_in key layout.columns row other) (Some place) None) o ≡ Some q → (b : Row) × (fin.get rows q ≡ Some b) × (agree_in key layout.columns row b ≡ true)
      at None stands e = absurd (cc e)
      at (Some b) stands e = agreed (agree_in key layout.columns row b) refl e where
        agreed : (t : Bool) → agree_in key layout.columns row b ≡ t → cond t (Some place) None ≡ Some q → (b : Row) × (fin.get rows q ≡ Some b) × (agree_in key layout.columns row b ≡ true)
        agreed true agree e = let same : place ≡ q = cc e in (b, ap (fin.get rows) (sym same) ∙ stands, agree)
        agreed false agree e = absurd (cc e)

  -- the keys of the rows that agree in some unique key
  pub place_among : (keys : List UniqueKey) (key : UniqueKey) (q : Row) → IsIn key keys → place_in key ≡ Some q → list_any (same_row q) (filter_map place_in keys) ≡ true
  place_among [] key q among is = absurd among
  place_among (k ∷ keys) key q (inl same) is =
      ap (λ (o : Option Row). list_any (same_row q) (cons_option o (filter_map place_in keys))) (ap place_in same ∙ is) ∙ ap (λ b. b || list_any (same_row q) (filter_map place_in keys)) (same_itself q)
  place_among (k ∷ keys) key q (inr among) is = by (place_in k) (place_among keys key q among is) where
    by : (o : Option Row) → list_any (same_row q) (filter_map place_in keys) ≡ true → list_any (same_row q) (cons_option o (filter_map place_in keys)) ≡ true
    by None rest = rest
    by (Some p) rest = other (same_row q p) where
      other : (b : Bool) → (b || list_any (same_row q) (filter_map place_in keys)) ≡ true
      other true = refl
      other false = rest

  pub place_from : (keys : List UniqueKey) (q : Row) → list_any (same_row q) (filter_map place_in keys) ≡ true → (key : UniqueKey) × IsIn key keys × (place_in key ≡ Some q)
  place_from [] q any = absurd (false≢true any)
  place_from (k ∷ keys) q any = by (place_in k) refl any (place_from keys q) where
    by : (o : Option Row) → place_in k ≡ o → list_any (same_row q) (cons_option o (filter_map place_in keys)) ≡ true → (list_any (same_row q) (filter_map place_in keys) ≡ true → (key : UniqueKey) × IsIn key keys × (place_in key ≡ Some q))
        → (key : UniqueKey) × IsIn key (k ∷ keys) × (place_in key ≡ Some q)
    by None is told rest = let r = rest told in (r.0, inr r.1, r.2)
    by (Some p) is told rest = here (same_row q p) refl told where
      here : (b : Bool) → same_row q p ≡ b → (b || list_any (same_row q) (filter_map place_in keys)) ≡ true → (key : UniqueKey) × IsIn key (k ∷ keys) × (place_in key ≡ Some q)
      here true same t = (k, inl refl, is ∙ ap Some (sym (same_is_same q p same)))
      here false other t = let r = rest t in (r.0, inr r.1, r.2)

  pub told_is_sharing : (q : Row) → list_any (same_row q) (told_places layout rows index row) ≡ option_map_or (share_unique layout row) (fin.get rows q) false
  told_is_sharing q = equal_tests _ _ forth back where
    forth : list_any (same_row q) (told_places layout rows index row) ≡ true → option_map_or (share_unique layout row) (fin.get rows q) false ≡ true
    forth any =
        let p = place_from layout.uniques q any in
        let r = told_agrees p.0 q p.2 in
        ap (λ o. option_map_or (share_unique layout row) o false) r.1 ∙ any_of (λ key. agree_in key layout.columns row r.0) layout.uniques p.0 p.1 r.2

    back : option_map_or (share_unique layout row) (fin.get rows q) false ≡ true → list_any (same_row q) (told_places layout rows index row) ≡ true
    back share = by (fin.get rows q) refl share where
      by : (o : Option Row) → fin.get rows q ≡ o → option_map_or (share_unique layout row) o false ≡ true → list_any (same_row q) (told_places layout rows index row) ≡ true
      by None is e = absurd (false≢true e)
      by (Some b) is e =
          let a = any_from (λ key. agree_in key layout.columns row b) layout.uniques e in
          place_among layout.uniques a.0 q a.1 (is_told a.0 q b a.1 is a.2)

  -- whether a unique key is taken, as the index tells it
  pub told_is_taken : (o : RowOp) (key : UniqueKey) → IsIn key layout.uniques → is_told_taken layout o rows index row key ≡ is_unique_taken layout o rows row key
  told_is_taken o key among = equal_tests _ _ forth back where
    test : Row × Row → Bool
    test e = is_other o e.0 && agree_in key layout.columns row e.1

    forth : is_told_taken layout o rows index row key ≡ true → is_unique_taken layout o rows row key ≡ true
    forth taken = by (place_in key) refl taken where
      by : (p : Option Row) → place_in key ≡ p → option_map_or (is_other o) p false ≡ true → is_unique_taken layout o rows row key ≡ true
      by None is e = absurd (false≢true e)
      by (Some q) is e = let r = told_agrees key q is in passes_some (λ e. is_other o e.0 && agree_in key layout.columns row e.1) rows q r.0 r.1 (and_from (is_other o q) (agree_in key layout.columns row r.0) e r.2)

    back : is_unique_taken layout o rows row key ≡ true → is_told_taken layout o rows index row key ≡ true
    back any =
        let p = some_passes (λ e. is_other o e.0 && agree_in key layout.columns row e.1) rows any in
        let parts = and_parts (is_other o p.key) (agree_in key layout.columns row p.value) p.passes in
        ap (λ (q : Option Row). option_map_or (is_other o) q false) (is_told key p.key p.value among p.stands parts.1) ∙ parts.0

  -- the refusals of unique keys, as the index tells them
  pub told_refused : (o : RowOp) (keys : List UniqueKey) → ((key : UniqueKey) → IsIn key keys → IsIn key layout.uniques) → told_refusals layout o rows index row keys ≡ unique_refusals layout o rows row keys
  told_refused o [] among = refl
  told_refused o (key ∷ keys) among =
      ap (λ b. (needs_room o && b, fault.Duplicate (key_number layout.uniques key)) ∷ told_refusals layout o rows index row keys) (told_is_taken o key (among key (inl refl)))
      ∙ ap (λ rest. (needs_room o && is_unique_taken layout o rows row key, fault.Duplicate (key_number layout.uniques key)) ∷ rest) (told_refused o keys (λ k i. among k (inr i)))

  pub told_refused_in_order : (o : RowOp) (keys : List UniqueKey) → keys ≡ uniques_in_order layout.uniques → told_refusals layout o rows index row keys ≡ unique_refusals layout o rows row (uniques_in_order layout.uniques)
  told_refused_in_order o keys is =
      ap (told_refusals layout o rows index row) is ∙ told_refused o (uniques_in_order layout.uniques) (λ key i. from_ordered (λ (k : UniqueKey). k.name) layout.uniques key i)
