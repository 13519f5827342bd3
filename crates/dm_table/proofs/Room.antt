-- Carrying changes over to rows: room for those under new keys, and then all of them.
use Rattle.std.proofs.Common.{◌≡◌, ℕ, ◌+◌, ◌<◌, length, get_or, drop, Bool, true, false, cond, ◌&&◌, ◌||◌, List, [], ◌∷◌, Option, Some, None, Result, Ok, Err, refl, sym, ap, subst, ◌∙◌}
use Rattle.std.specs.Prelude.{T, OnErr, unwrap_or, is_none, is_some}
use Rattle.std.specs.Option.{option_map_or}
use Rattle.std.specs.List.{list_any}
use Rattle.std.specs.FinMap as fin
use Rattle.std.specs.FinMap.{find, get-entries, get-insert, get-remove, entries_sorted, same_map}
use Rattle.std.specs.FinMap.Entries.{is_sorted}
use Rattle.std.proofs.lemmas.Bool.{false≢true, or_right}
use Rattle.std.proofs.lemmas.List.{at_drop_more}
use Rattle.dm_value.specs.Order.{row_cmp}
use Rattle.dm_value.proofs.OrderLemmas.{row_total, row_exact}
use Rattle.dm_table.specs.Contents.{Row, RowMap, same_row}
use Rattle.dm_table.specs.Staging.{ChangeMap, changed, carried, fresh_keys, removed_all, HasRoom, IsFilled}
use Rattle.dm_table.proofs.Entries.{apart, first}
use Rattle.dm_table.proofs.Filtered.{same_is_same, same_itself}
use Rattle.dm_table.proofs.Lookups.{key_among}
use Rattle.dm_table.proofs.Behind.{get-changed, get-carried}

-- Removing.

-- one more is removed, of a list by place
pub removed_one : (keys : List Row) (i : ℕ) (k : Row) (m n total : RowMap) → i < length keys → k ≡ get_or keys i k → n ≡ fin.remove m k → removed_all (drop i keys) m ≡ total → removed_all (drop (i + 1) keys) n ≡ total
removed_one keys i k m n total within here removed h =
    ap (removed_all (drop (i + 1) keys)) removed ∙ sym (at_drop_more (λ ks. removed_all ks m) keys i k within ∙ ap (λ (q : Row). removed_all (q ∷ drop (i + 1) keys) m) (sym here)) ∙ h

-- a row that is removed at the first key or at the others
twice_removed : (a b : Bool) (o : Option Row) → cond b None (cond a None o) ≡ cond (a || b) None o
twice_removed true true o = refl
twice_removed true false o = refl
twice_removed false b o = refl

-- what stands behind removing the rows of keys
pub get-removed_all : (keys : List Row) (m : RowMap) (q : Row) → fin.get (removed_all keys m) q ≡ cond (list_any (same_row q) keys) None (fin.get m q)
get-removed_all [] m q = refl
get-removed_all (k ∷ keys) m q =
    get-removed_all keys (fin.remove m k) q ∙ ap (cond (list_any (same_row q) keys) None) (get-remove row_total m k q) ∙ twice_removed (same_row q k) (list_any (same_row q) keys) (fin.get m q)

-- Room.

-- rows were put under some of the keys, and under those that aren't left
pub record Filling (keys left : List Row) (old now : RowMap) : Type 0 where
  pub among : (q : Row) → list_any (same_row q) left ≡ true → list_any (same_row q) keys ≡ true
  pub elsewhere : (q : Row) → list_any (same_row q) keys ≡ false → fin.get now q ≡ fin.get old q
  pub there : (q : Row) → list_any (same_row q) keys ≡ true → list_any (same_row q) left ≡ false → is_some (fin.get now q) ≡ true

-- one more is put, of a list
filling_one : (keys left before : List Row) (k row : Row) (old now new : RowMap) → before ≡ k ∷ left → new ≡ fin.insert now k row → Filling keys before old now → Filling keys left old new
filling_one keys left before k row old now new is put h = record {
  among = λ q any. h.among q (ap (list_any (same_row q)) is ∙ or_right (same_row q k) (list_any (same_row q) left) any);
  elsewhere = λ q none. at q ∙ away q (same_row q k) refl none ∙ h.elsewhere q none;
  there = λ q any none. ap is_some (at q) ∙ stands q (same_row q k) refl any none;
} where
  at : (q : Row) → fin.get new q ≡ cond (same_row q k) (Some row) (fin.get now q)
  at q = ap (λ (m : RowMap). fin.get m q) put ∙ get-insert row_total now k row q

  away : (q : Row) (b : Bool) → same_row q k ≡ b → list_any (same_row q) keys ≡ false → cond (same_row q k) (Some row) (fin.get now q) ≡ fin.get now q
  away q true same none = absurd (false≢true (sym none ∙ h.among q (ap (list_any (same_row q)) is ∙ ap (λ b. b || list_any (same_row q) left) same)))
  away q false other none = ap (λ b. cond b (Some row) (fin.get now q)) other

  stands : (q : Row) (b : Bool) → same_row q k ≡ b → list_any (same_row q) keys ≡ true → list_any (same_row q) left ≡ false → is_some (cond (same_row q k) (Some row) (fin.get now q)) ≡ true
  stands q true same any none = ap (λ b. is_some (cond b (Some row) (fin.get now q))) same
  stands q false other any none =
      ap (λ b. is_some (cond b (Some row) (fin.get now q))) other ∙ h.there q any (ap (list_any (same_row q)) is ∙ ap (λ b. b || list_any (same_row q) left) other ∙ none)

-- one more is put, of a list by place
pub filling_next : (keys : List Row) (i : ℕ) (k key row : Row) (old now new : RowMap) → i < length keys → k ≡ get_or keys i k → key ≡ k → new ≡ fin.insert now key row → Filling keys (drop i keys) old now → Filling keys (drop (i + 1) keys) old new
filling_next keys i k key row old now new within here same put =
    filling_one keys (drop (i + 1) keys) (drop i keys) k row old now new (at_drop_more (λ ks. ks) keys i k within ∙ ap (λ (q : Row). q ∷ drop (i + 1) keys) (sym here)) (put ∙ ap (λ (q : Row). fin.insert now q row) same)

-- what was put is taken away again
pub taken_back : (keys : List Row) (old now new : RowMap) → ((q : Row) → list_any (same_row q) keys ≡ true → fin.get old q ≡ None) → ((q : Row) → list_any (same_row q) keys ≡ false → fin.get now q ≡ fin.get old q)
    → new ≡ removed_all keys now → new ≡ old
taken_back keys old now new absent elsewhere removed = removed ∙ same_map row_total row_exact (removed_all keys now) old (λ q. get-removed_all keys now q ∙ by q (list_any (same_row q) keys) refl) where
  by : (q : Row) (b : Bool) → list_any (same_row q) keys ≡ b → cond b None (fin.get now q) ≡ fin.get old q
  by q true any = sym (absent q any)
  by q false none = elsewhere q none

-- the same of room that was made
pub room_back : (old now new : RowMap) (made back keys : List Row) → made ≡ keys → back ≡ keys → ((q : Row) → list_any (same_row q) keys ≡ true → fin.get old q ≡ None) → IsFilled made old now → new ≡ removed_all back now → new ≡ old
room_back old now new made back keys same taken absent filled removed =
    taken_back keys old now new absent (λ q none. filled.elsewhere q (ap (list_any (same_row q)) same ∙ none)) (removed ∙ ap (λ (ks : List Row). removed_all ks now) taken)

-- One change after another.

-- there is room for the first change
pub room_at_first : (changes rest : ChangeMap) (rows : RowMap) (k : Row) (change : Option Row) → fin.entries changes ≡ (k, change) ∷ fin.entries rest → HasRoom changes rows → is_some change ≡ true → is_some (fin.get rows k) ≡ true
room_at_first changes rest rows k None is room some = absurd (false≢true some)
room_at_first changes rest rows k (Some row) is room some =
    room k row (get-entries changes k ∙ ap (find row_cmp k) is ∙ ap (λ b. cond b (Some (Some row)) (find row_cmp k (fin.entries rest))) (same_itself k))

-- behind the first change there is room for the others
pub room_stays : (changes rest : ChangeMap) (rows now : RowMap) (k : Row) (change : Option Row) → fin.entries changes ≡ (k, change) ∷ fin.entries rest → now ≡ changed rows k change → HasRoom changes rows → HasRoom rest now
room_stays changes rest rows now k change is put room q row left = by (same_row q k) refl where
  by : (b : Bool) → same_row q k ≡ b → is_some (fin.get now q) ≡ true
  by true same =
      let none : Some (Some row) ≡ None =
      sym left ∙ get-entries rest q ∙ ap (λ (x : Row). find row_cmp x (fin.entries rest)) (same_is_same q k same)
      ∙ apart k (fin.entries rest) (first _ _ (subst (λ (es : List (Row × Option Row)). T (is_sorted row_cmp es)) is (entries_sorted changes))) in
      absurd (cc none)
  by false other =
      ap is_some (ap (λ (m : RowMap). fin.get m q) put ∙ get-changed rows k change q ∙ ap (λ b. cond b change (fin.get rows q)) other)
      ∙ room q row (get-entries changes q ∙ ap (find row_cmp q) is ∙ ap (λ b. cond b (Some change) (find row_cmp q (fin.entries rest))) other ∙ sym (get-entries rest q) ∙ left)

-- Rows with room for the changes.

module _ (changes : ChangeMap) (old : RowMap) (keys : List Row) (are : keys ≡ fresh_keys old (fin.entries changes)) where
  -- which keys are new
  is_fresh : (q : Row) → list_any (same_row q) keys ≡ option_map_or (λ change. is_some change && is_none (fin.get old q)) (fin.get changes q) false
  is_fresh q = ap (list_any (same_row q)) are ∙ key_among (λ e. is_some e.1 && is_none (fin.get old e.0)) changes q

  -- a new key has no row
  pub fresh_is_absent : (q : Row) → list_any (same_row q) keys ≡ true → fin.get old q ≡ None
  fresh_is_absent q any = by (fin.get changes q) (fin.get old q) refl (sym (is_fresh q) ∙ any) where
    by : (o : Option (Option Row)) (there : Option Row) → fin.get old q ≡ there → option_map_or (λ change. is_some change && is_none (fin.get old q)) o false ≡ true → fin.get old q ≡ None
    by None there is h = absurd (false≢true h)
    by (Some None) there is h = absurd (false≢true h)
    by (Some (Some row)) None is h = is
    by (Some (Some row)) (Some other) is h = absurd (false≢true (sym (ap is_none is) ∙ h))

  -- where rows were put under the new keys there is room for all changes
  pub filled_has_room : (now : RowMap) → IsFilled keys old now → HasRoom changes now
  filled_has_room now filled q row left = by (fin.get old q) refl where
    fresh : list_any (same_row q) keys ≡ is_none (fin.get old q)
    fresh = is_fresh q ∙ ap (λ o. option_map_or (λ change. is_some change && is_none (fin.get old q)) o false) left

    by : (there : Option Row) → fin.get old q ≡ there → is_some (fin.get now q) ≡ true
    by None is = filled.there q (fresh ∙ ap is_none is)
    by (Some other) is = ap is_some (filled.elsewhere q (fresh ∙ ap is_none is) ∙ is)

  -- the rows that were put don't count behind the changes
  pub carried_same : (now : RowMap) → IsFilled keys old now → carried (fin.entries changes) now ≡ carried (fin.entries changes) old
  carried_same now filled = same_map row_total row_exact (carried (fin.entries changes) now) (carried (fin.entries changes) old)
      (λ q. get-carried changes now q ∙ by q (fin.get changes q) refl ∙ sym (get-carried changes old q)) where
        by : (q : Row) (o : Option (Option Row)) → fin.get changes q ≡ o → unwrap_or (fin.get changes q) (fin.get now q) ≡ unwrap_or (fin.get changes q) (fin.get old q)
        by q None untouched =
            ap (unwrap_or (fin.get changes q)) (filled.elsewhere q (is_fresh q ∙ ap (λ o. option_map_or (λ change. is_some change && is_none (fin.get old q)) o false) untouched))
        by q (Some change) touched = ap (λ o. unwrap_or o (fin.get now q)) touched ∙ sym (ap (λ o. unwrap_or o (fin.get old q)) touched)

-- what holds anyway holds where a call failed
pub either_way : {A E P : Type 0} (r : Result A E) → P → OnErr r P
either_way (Ok x) p = tt
either_way (Err e) p = p
