-- Rows under their keys, as a sorted list of entries and as a map.
use Rattle.std.proofs.Common.{◌≡◌, ◌↔◌, ◌<◌, length, arith, is_some, Option, Bool, true, false, cond, ◌&&◌, List, [], ◌∷◌, map, Some, None, refl, sym, ap, subst, ◌∙◌}
use Rattle.std.specs.Prelude.{T}
use Rattle.std.specs.declared.cmp.Ordering.{Ordering}
use Rattle.std.specs.declared.cmp.Ordering.TheVariants.{Less, Equal, Greater}
use Rattle.std.specs.Ordering.{is_lt, is_eq}
use Rattle.std.specs.List.Sorted.{IsStrictlySortedBy}
use Rattle.std.specs.List.{AllByRecursion}
use Rattle.std.proofs.lemmas.Cmp.{eq_by_cmp_equiv}
use Rattle.std.specs.BTreeMap.{BTreeMap, IsOrdered, UpdatesBy, get, is_at}
use Rattle.std.specs.Option.{option_or, IsSome, IfNone}
use Rattle.std.proofs.lemmas.Bool.{false≢true, cond-false}
use Rattle.std.specs.Map.{keys_of, lookup}
use Rattle.std.specs.FinMap as fin
use Rattle.std.specs.FinMap.{FinMap, find, entries-from_sorted, get-from_sorted, get-from_entries, get-insert, get-remove, get-entries, entries_sorted, same_map}
use Rattle.std.specs.FinMap.Entries.{is_sorted, below_all}
use Rattle.dm_value.specs.Order.{row_cmp}
use Rattle.dm_value.proofs.OrderLemmas.{row_total, row_exact}
use Rattle.dm_table.specs.Contents.{Row, RowMap, same_row}

-- a look-up in entries
pub found_is_looked_up : {X : Type 0} (q : Row) (es : List (Row × X)) → find row_cmp q es ≡ lookup (is_at (row_cmp q)) es
found_is_looked_up q [] = refl
found_is_looked_up q (e ∷ es) = ap (cond (same_row q e.0) (Some e.1)) (found_is_looked_up q es)

pub get_keyed : {X : Type 0} (m : BTreeMap Row X) (q : Row) → get row_cmp m q ≡ fin.get (fin.from_entries {R = row_cmp} m.entries) q
get_keyed m q = sym (found_is_looked_up q m.entries) ∙ sym (get-from_entries row_total m.entries q)

both : (a b : Bool) → T a → T b → T (a && b)
both true b x y = y
both false b x y = absurd x

-- a strictly sorted list is one as the maps test it
below : {X : Type 0} (k : Row) (es : List (Row × X)) → AllByRecursion (λ q. row_cmp k q ≡ Less) (keys_of es) → T (below_all row_cmp k es)
below k [] h = tt
below k (e ∷ es) h = both _ _ (subst (λ o. T (is_lt o)) (sym h.0) tt) (below k es h.1)

in_order : {X : Type 0} (es : List (Row × X)) → IsStrictlySortedBy row_cmp (keys_of es) → T (is_sorted row_cmp es)
unfolding IsStrictlySortedBy
in_order [] h = tt
in_order (e ∷ es) h = both _ _ (below e.0 es h.0) (in_order es h.1)

-- a map that is made of sorted entries has these entries
pub entries_keyed : {X : Type 0} (m : BTreeMap Row X) → IsOrdered row_cmp m → fin.entries (fin.from_entries {R = row_cmp} m.entries) ≡ m.entries
entries_keyed m h =
    let es = m.entries in
    ap fin.entries (same_map row_total row_exact (fin.from_entries es) (fin.from_sorted es) (λ q. get-from_entries row_total es q ∙ sym (get-from_sorted row_cmp es q (in_order es h))))
    ∙ entries-from_sorted row_cmp es (in_order es h)

pub inserted : {X : Type 0} (m n : BTreeMap Row X) (k : Row) (v : X) → UpdatesBy row_cmp (row_cmp k) m n (Some v) → fin.from_entries {R = row_cmp} n.entries ≡ fin.insert (fin.from_entries m.entries) k v
inserted m n k v h = same_map row_total row_exact _ _ (λ q.
    sym (get_keyed n q) ∙ h.0 q ∙ ap (λ b. cond b (Some v) (get row_cmp m q)) ((eq_by_cmp_equiv row_total).symm k q) ∙ ap (cond (same_row q k) (Some v)) (get_keyed m q) ∙ sym (get-insert row_total (fin.from_entries m.entries) k v q))

pub removed : (m n : BTreeMap Row Row) (k : Row) → UpdatesBy row_cmp (row_cmp k) m n None → fin.from_entries {R = row_cmp} n.entries ≡ fin.remove (fin.from_entries m.entries) k
removed m n k h = same_map row_total row_exact _ _ (λ q.
    sym (get_keyed n q) ∙ h.0 q ∙ ap (λ b. cond b None (get row_cmp m q)) ((eq_by_cmp_equiv row_total).symm k q) ∙ ap (cond (same_row q k) None) (get_keyed m q) ∙ sym (get-remove row_total (fin.from_entries m.entries) k q))

-- a key with a row isn't new
pub not_new : (m : BTreeMap Row Row) (rows : RowMap) (k : Row) → fin.from_entries {R = row_cmp} m.entries ≡ rows → is_some (fin.get rows k) ≡ true → get row_cmp m k ≡ None → ⊥
not_new m rows k seen there absent = false≢true (ap is_some (sym absent ∙ get_keyed m k ∙ ap (λ (n : RowMap). fin.get n k) seen) ∙ there)

-- the first entry is taken away, where there is one
pub taken_first : {X : Type 0} (m n : BTreeMap Row X) (rows : FinMap row_cmp X) (e : Row × X) → IsOrdered row_cmp m → IsOrdered row_cmp n → fin.from_entries {R = row_cmp} m.entries ≡ rows → m.entries ≡ e ∷ n.entries
    → fin.entries rows ≡ e ∷ fin.entries (fin.from_entries {R = row_cmp} n.entries)
taken_first m n rows e before after seen taken = ap fin.entries (sym seen) ∙ entries_keyed m before ∙ taken ∙ ap (λ es. e ∷ es) (sym (entries_keyed n after))

-- a list that isn't longer than none
nothing : {A : Type 0} (es : List A) → (0 < length es → ⊥) → es ≡ []
nothing [] h = refl
nothing (e ∷ es) h = absurd (h (omega arith))

-- where no entry is taken there was none
pub none_taken : {X : Type 0} (r : Option (Row × X)) (m : BTreeMap Row X) (rows : FinMap row_cmp X) → IsOrdered row_cmp m → fin.from_entries {R = row_cmp} m.entries ≡ rows → (IsSome r ↔ (0 < length m.entries)) → IfNone r (fin.entries rows ≡ [])
none_taken (Some e) m rows before seen h = tt
none_taken None m rows before seen h = ap fin.entries (sym seen) ∙ entries_keyed m before ∙ nothing m.entries (λ more. false≢true (h.1 more))

-- entries over those of a map
abbrev pub over : RowMap → List (Row × Row) → RowMap
over m [] = m
over m (e ∷ es) = fin.insert (over m es) e.0 e.1

pub over_nothing : (es : List (Row × Row)) → over fin.empty es ≡ fin.from_entries es
over_nothing [] = refl
over_nothing (e ∷ es) = ap (λ (m : RowMap). fin.insert m e.0 e.1) (over_nothing es)

get-over : (m : RowMap) (es : List (Row × Row)) (q : Row) → fin.get (over m es) q ≡ option_or (find row_cmp q es) (fin.get m q)
get-over m [] q = refl
get-over m (e ∷ es) q = get-insert row_total (over m es) e.0 e.1 q ∙ by (same_row q e.0) (get-over m es q) where
  by : (b : Bool) → fin.get (over m es) q ≡ option_or (find row_cmp q es) (fin.get m q) → cond b (Some e.1) (fin.get (over m es) q) ≡ option_or (cond b (Some e.1) (find row_cmp q es)) (fin.get m q)
  by true h = refl
  by false h = h

pub tied : (o : Ordering) → is_eq o ≡ true → o ≡ Equal
tied Less h = absurd (false≢true h)
tied Equal h = refl
tied Greater h = absurd (false≢true h)

-- a key that isn't among the entries may be put first
pub put_first : (m : RowMap) (k v : Row) (es : List (Row × Row)) → find row_cmp k es ≡ None → over (fin.insert m k v) es ≡ fin.insert (over m es) k v
put_first m k v es absent = same_map row_total row_exact _ _ (λ q.
    get-over (fin.insert m k v) es q ∙ ap (option_or (find row_cmp q es)) (get-insert row_total m k v q) ∙ by q (same_row q k) refl
    ∙ sym (ap (cond (same_row q k) (Some v)) (get-over m es q)) ∙ sym (get-insert row_total (over m es) k v q)) where
      by : (q : Row) (b : Bool) → same_row q k ≡ b → option_or (find row_cmp q es) (cond (same_row q k) (Some v) (fin.get m q)) ≡ cond (same_row q k) (Some v) (option_or (find row_cmp q es) (fin.get m q))
      by q true same =
          let here : find row_cmp q es ≡ None = ap (λ (x : Row). find row_cmp x es) (row_exact q k (tied (row_cmp q k) same)) ∙ absent in
          ap (λ b. option_or (find row_cmp q es) (cond b (Some v) (fin.get m q))) same ∙ ap (λ o. option_or o (Some v)) here
          ∙ sym (ap (λ b. cond b (Some v) (option_or (find row_cmp q es) (fin.get m q))) same)
      by q false other = ap (λ b. option_or (find row_cmp q es) (cond b (Some v) (fin.get m q))) other ∙ sym (ap (λ b. cond b (Some v) (option_or (find row_cmp q es) (fin.get m q))) other)

pub first : (a b : Bool) → T (a && b) → T a
first true b p = tt
first false b p = p

pub second : (a b : Bool) → T (a && b) → T b
second true b p = p
second false b p = absurd p

pub other_if_less : (o : Ordering) → T (is_lt o) → is_eq o ≡ false
other_if_less Less f = refl
other_if_less Equal f = absurd f
other_if_less Greater f = absurd f

-- the first of sorted entries is not among the others
pub apart : {X : Type 0} (k : Row) (es : List (Row × X)) → T (below_all row_cmp k es) → find row_cmp k es ≡ None
apart k [] h = refl
apart k (e ∷ es) h = cond-false (same_row k e.0) (Some e.1) (find row_cmp k es) (other_if_less (row_cmp k e.0) (first _ _ h)) ∙ apart k es (second _ _ h)

-- what a loop over entries keeps: those to come over those that were put, and their order
pub record Puts (made : RowMap) (es : List (Row × Row)) (total : RowMap) : Type 0 where
  pub whole : over made es ≡ total
  pub ordered : T (is_sorted row_cmp es)

-- a map is made of its entries
pub entries_make : (m : RowMap) → fin.from_entries (fin.entries m) ≡ m
entries_make m = same_map row_total row_exact _ _ (λ q. get-from_entries row_total (fin.entries m) q ∙ sym (get-entries m q))

pub puts_begin : (made : RowMap) (es : List (Row × Row)) (m : RowMap) → made ≡ fin.empty → es ≡ fin.entries m → Puts made es m
puts_begin made es m none all = record {
  whole = ap (λ (x : RowMap). over x es) none ∙ over_nothing es ∙ ap (λ (xs : List (Row × Row)). fin.from_entries xs) all ∙ entries_make m;
  ordered = subst (λ (xs : List (Row × Row)). T (is_sorted row_cmp xs)) (sym all) (entries_sorted m);
}

pub puts_one : (made now total : RowMap) (k v key row : Row) (before es : List (Row × Row)) → before ≡ (k, v) ∷ es → key ≡ k → row ≡ v → now ≡ fin.insert made key row → Puts made before total → Puts now es total
puts_one made now total k v key row before es is same_key same_row put h = record {
  whole = ap (λ (m : RowMap). over m es) (put ∙ ap (λ (q : Row). fin.insert made q row) same_key ∙ ap (λ (r : Row). fin.insert made k r) same_row)
      ∙ put_first made k v es (apart k es (first _ _ ordered)) ∙ ap (over made) (sym is) ∙ h.whole;
  ordered = second _ _ ordered;
} where
  ordered : T (is_sorted row_cmp ((k, v) ∷ es))
  ordered = subst (λ (xs : List (Row × Row)). T (is_sorted row_cmp xs)) is h.ordered

-- the same with other rows under the keys
below-map : (f : Row → Row) (k : Row) (es : List (Row × Row)) → below_all row_cmp k (map (λ e. (e.0, f e.1)) es) ≡ below_all row_cmp k es
below-map f k [] = refl
below-map f k (e ∷ es) = ap (λ b. is_lt (row_cmp k e.0) && b) (below-map f k es)

sorted-map : (f : Row → Row) (es : List (Row × Row)) → is_sorted row_cmp (map (λ e. (e.0, f e.1)) es) ≡ is_sorted row_cmp es
sorted-map f [] = refl
sorted-map f (e ∷ es) = ap (λ b. b && is_sorted row_cmp (map (λ e. (e.0, f e.1)) es)) (below-map f e.0 es) ∙ ap (λ b. below_all row_cmp e.0 es && b) (sorted-map f es)

pub puts_begin_mapped : (f : Row → Row) (made : RowMap) (es : List (Row × Row)) (m : RowMap) → made ≡ fin.empty → es ≡ fin.entries m → Puts made (map (λ e. (e.0, f e.1)) es) (fin.from_entries (map (λ e. (e.0, f e.1)) (fin.entries m)))
puts_begin_mapped f made es m none all = record {
  whole = ap (λ (x : RowMap). over x (map (λ e. (e.0, f e.1)) es)) none ∙ over_nothing (map (λ e. (e.0, f e.1)) es) ∙ ap (λ (xs : List (Row × Row)). fin.from_entries (map (λ (e : Row × Row). (e.0, f e.1)) xs)) all;
  ordered = subst T (sym (sorted-map f es)) (subst (λ (xs : List (Row × Row)). T (is_sorted row_cmp xs)) (sym all) (entries_sorted m));
}
