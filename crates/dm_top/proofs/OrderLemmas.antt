-- Rows in the order of their keys: where each comes before the next no key repeats, and the rows are those of the map.
use Rattle.std.proofs.Common.{◌≡◌, ℕ, ◌+◌, ◌<◌, Bool, true, false, cond, ◌&&◌, ◌||◌, T, List, [], ◌∷◌, ◌++◌, length, get_or, map, Option, Some, None, is_some, refl, sym, ap, subst, ◌∙◌, arith, append_assoc, IsPermutation}
use Rattle.std.specs.List.{list_any, AllByRecursion, IsDistinct, IsAllAdjacentAnswer}
use Rattle.std.specs.List.Sorted.{IsSortedBy, IsStrictlySortedBy}
use Rattle.std.specs.declared.cmp.Ordering.{Ordering}
use Rattle.std.specs.declared.cmp.Ordering.TheVariants.{Less, Equal, Greater}
use Rattle.std.specs.Ordering.{is_lt, is_eq, ordering_reverse}
use Rattle.std.specs.FinMap as fin
use Rattle.std.specs.FinMap.{FinMap, find, is_sorted, same_map, get-from_sorted, get_tied, get-empty, entries-from_sorted}
use Rattle.std.proofs.lemmas.Bool.{true≢false, or_parts, or_from}
use Rattle.std.proofs.lemmas.Cmp.{eq_by_cmp_equiv}
use Rattle.std.proofs.lemmas.List.{get_or-map, length-map}
use Rattle.std.proofs.lemmas.List.Elements.{All-from_recursion, recursion_from_All}
use Rattle.std.proofs.lemmas.List.Sorted.{All-permutation, IsPermutation-map, IsPermutation-sym, list_any-IsPermutation}
use Rattle.std.proofs.lemmas.Map.Keys.{IsDistinct-from_sorted, IsDistinct-IsPermutation, IsDistinct-head, IsDistinct-tail, apart_from_distinct, sorted_from_all_adjacent, sorted_head, sorted_tail}
use Rattle.dm_value.specs.Order.{row_cmp}
use Rattle.dm_value.proofs.OrderLemmas.{row_total, row_exact}
use Rattle.dm_schema.specs.Names.{repeats}
use Rattle.dm_top.specs.Rows.{Row, Entry}
use Rattle.dm_top.specs.Load.{same_row, keys_of, map_of}
use Rattle.dm_top.proofs.Laws.{each_row_is_there}
use Rattle.dm_top.proofs.Merging.{has_inserted}

-- Lists without repetition.

all_fail : {A : Type 0} (test : A → Bool) (xs : List A) → list_any test xs ≡ false → AllByRecursion (λ y. test y ≡ false) xs
all_fail test [] e = tt
all_fail test (x ∷ xs) e = let parts = or_parts (test x) (list_any test xs) e in (parts.0, all_fail test xs parts.1)

none_passes : {A : Type 0} (test : A → Bool) (xs : List A) → AllByRecursion (λ y. test y ≡ false) xs → list_any test xs ≡ false
none_passes test [] h = refl
none_passes test (x ∷ xs) h = or_from _ _ h.0 (none_passes test xs h.1)

distinct : {A : Type 0} (same : A → A → Bool) (xs : List A) → repeats same xs ≡ false → IsDistinct same xs
unfolding IsDistinct
distinct same [] e = tt
distinct same (x ∷ xs) e = let parts = or_parts (list_any (same x) xs) (repeats same xs) e in (all_fail (same x) xs parts.0, distinct same xs parts.1)

apart : {A : Type 0} (same : A → A → Bool) (xs : List A) → IsDistinct same xs → repeats same xs ≡ false
apart same [] d = refl
apart same (x ∷ xs) d = or_from _ _ (none_passes (same x) xs (IsDistinct-head same x xs d)) (apart same xs (IsDistinct-tail same x xs d))

flips : (x y : Row) → same_row x y ≡ same_row y x
flips = (eq_by_cmp_equiv row_total).symm

-- keys in strict order don't repeat, nor do they in another order
pub none_repeats : (ks js : List Row) → IsPermutation ks js → IsStrictlySortedBy row_cmp js → repeats same_row ks ≡ false
none_repeats ks js p s = apart same_row ks (IsDistinct-IsPermutation same_row flips js ks (IsPermutation-sym ks js p) (IsDistinct-from_sorted row_cmp js s))

-- Sorting by keys.

less : (o : Ordering) → true ≡ is_lt o → o ≡ Less
less Less e = refl
less Equal e = cc
less Greater e = cc

-- what is neither before nor behind is the same
tied : (o p : Ordering) → p ≡ ordering_reverse o → false ≡ is_lt o → is_lt p ≡ false → is_eq o ≡ true
tied Less p r h k = cc
tied Equal p r h k = refl
tied Greater p r h k = let bad : true ≡ false = sym (ap is_lt r) ∙ k in cc

module _ {X : Type 0} (see : X → Row) (values : Row → Row) where
  abbrev key : X → Row
  key x = values (see x)

  abbrev pub comes_before : X → X → Bool
  comes_before x y = is_lt (row_cmp (key x) (key y))

  twice : (xs : List X) → map values (map see xs) ≡ map key xs
  twice [] = refl
  twice (x ∷ xs) = ap (λ (rest : List Row). key x ∷ rest) (twice xs)

  ascending : (ys : List X) → IsAllAdjacentAnswer (λ x y b. b ≡ comes_before x y) ys true → IsStrictlySortedBy row_cmp (map key ys)
  ascending [] h = sorted_from_all_adjacent row_total [] [] (λ k l. absurd (omega arith))
  ascending (y ∷ ys) h =
      let all : List X = y ∷ ys in
      let many = length-map all key in
      sorted_from_all_adjacent row_total (map key all) [] (λ k l.
      rw (get_or-map key all k y [] (omega arith), get_or-map key all (k + 1) y [] (omega arith)) (less (row_cmp (key (get_or all k y)) (key (get_or all (k + 1) y))) (h k y (omega arith))))

  -- rows that come each before the next
  pub in_strict_order : (xs ys : List X) → IsPermutation xs ys → IsAllAdjacentAnswer (λ x y b. b ≡ comes_before x y) ys true
      → IsPermutation (map see xs) (map see ys) × IsStrictlySortedBy row_cmp (map values (map see ys))
  in_strict_order xs ys p h = (IsPermutation-map see xs ys p, subst (IsStrictlySortedBy row_cmp) (sym (twice ys)) (ascending ys h))

  same_there : (y : X) (ys : List X) (k : ℕ) → k + 1 < length (y ∷ ys) → IsSortedBy comes_before (y ∷ ys) → false ≡ comes_before (get_or (y ∷ ys) k y) (get_or (y ∷ ys) (k + 1) y)
      → same_row (get_or (map key (y ∷ ys)) k []) (get_or (map key (y ∷ ys)) (k + 1) []) ≡ true
  same_there y ys k l up not_up =
      let all : List X = y ∷ ys in
      rw (get_or-map key all k y [] (omega arith), get_or-map key all (k + 1) y [] l)
      (tied (row_cmp (key (get_or all k y)) (key (get_or all (k + 1) y))) (row_cmp (key (get_or all (k + 1) y)) (key (get_or all k y))) (row_total.antisymm (key (get_or all (k + 1) y)) (key (get_or all k y))) not_up (up k y (omega arith) l))

  there_repeats : (xs ys : List X) → IsPermutation xs ys → IsSortedBy comes_before ys → IsAllAdjacentAnswer (λ x y b. b ≡ comes_before x y) ys false → IsDistinct same_row (map key xs) → ⊥
  there_repeats xs [] p up h d = omega (arith, h.1)
  there_repeats xs (y ∷ ys) p up h d =
      let many = length-map (y ∷ ys) key in
      let differ = apart_from_distinct same_row (map key (y ∷ ys)) h.0 (h.0 + 1) [] (IsDistinct-IsPermutation same_row flips (map key xs) (map key (y ∷ ys)) (IsPermutation-map key xs (y ∷ ys) p) d) (omega arith) (omega (arith, h.1)) in
      true≢false (sym (same_there y ys h.0 h.1 up (h.2 y)) ∙ differ)

  -- sorted rows of which one doesn't come before the next
  pub not_in_strict_order : (xs ys : List X) → IsPermutation xs ys → IsSortedBy comes_before ys → IsAllAdjacentAnswer (λ x y b. b ≡ comes_before x y) ys false → repeats same_row (map values (map see xs)) ≡ true
  not_in_strict_order xs ys p up h = ap (repeats same_row) (twice xs) ∙ by (repeats same_row (map key xs)) refl where
    by : (b : Bool) → repeats same_row (map key xs) ≡ b → repeats same_row (map key xs) ≡ true
    by true e = e
    by false e = absurd (there_repeats xs ys p up h (distinct same_row (map key xs) e))

-- The map.

is_less : (o : Ordering) → o ≡ Less → T (is_lt o)
is_less Less e = tt
is_less Equal e = cc
is_less Greater e = cc

both : (a b : Bool) → T a → T b → T (a && b)
both true b p q = q
both false b p q = absurd p

rising_below : (k : Row) (es : List Entry) → AllByRecursion (λ y. row_cmp k y ≡ Less) (keys_of es) → T (fin.Entries.below_all row_cmp k es)
rising_below k [] h = tt
rising_below k (e ∷ es) h = both _ _ (is_less (row_cmp k e.0) h.0) (rising_below k es h.1)

rising : (es : List Entry) → IsStrictlySortedBy row_cmp (keys_of es) → T (is_sorted row_cmp es)
rising [] s = tt
rising (e ∷ es) s = both _ _ (rising_below e.0 es (sorted_head row_cmp e.0 (keys_of es) s)) (rising es (sorted_tail row_cmp e.0 (keys_of es) s))

each_there : (before more : List Entry) → repeats same_row (keys_of (before ++ more)) ≡ false → AllByRecursion (λ e. fin.get (map_of (before ++ more)) e.0 ≡ Some e.1) more
each_there before [] apart = tt
each_there before (e ∷ more) apart =
    let regroup = append_assoc before (e ∷ []) more in (
      each_row_is_there before e more apart,
      subst (λ (es : List Entry). AllByRecursion (λ e. fin.get (map_of es) e.0 ≡ Some e.1) more) regroup
          (each_there (before ++ e ∷ []) more (ap (λ (es : List Entry). repeats same_row (keys_of es)) regroup ∙ apart)),
    )

tie : (b : Bool) (o : Ordering) → is_eq o ≡ b → b ≡ true → o ≡ Equal
tie b Less e t = cc
tie b Equal e t = refl
tie b Greater e t = cc

-- a map that has each of these entries answers as they do
found : (m : FinMap row_cmp Row) (q : Row) (fs : List Entry) → AllByRecursion (λ e. fin.get m e.0 ≡ Some e.1) fs → is_some (fin.get m q) ≡ list_any (same_row q) (keys_of fs) → fin.get m q ≡ find row_cmp q fs
found m q [] h known = by (fin.get m q) known where
  by : (o : Option Row) → is_some o ≡ false → o ≡ None
  by None e = refl
  by (Some v) e = cc
found m q (f ∷ fs) h known = by (same_row q f.0) refl known (found m q fs h.1) where
  by : (b : Bool) → same_row q f.0 ≡ b → is_some (fin.get m q) ≡ (b || list_any (same_row q) (keys_of fs)) → (is_some (fin.get m q) ≡ list_any (same_row q) (keys_of fs) → fin.get m q ≡ find row_cmp q fs)
      → fin.get m q ≡ cond b (Some f.1) (find row_cmp q fs)
  by true e k rest = sym (get_tied row_total m q f.0 (tie (same_row q f.0) (row_cmp q f.0) refl e)) ∙ h.0
  by false e k rest = rest k

-- entries in strict order are those of the map, in whatever order they were put into it
pub map_entries : (es fs : List Entry) → repeats same_row (keys_of es) ≡ false → IsPermutation es fs → IsStrictlySortedBy row_cmp (keys_of fs) → fin.entries (map_of es) ≡ fs
map_entries es fs none p s =
    let up = rising fs s in
    let there : AllByRecursion (λ e. fin.get (map_of es) e.0 ≡ Some e.1) fs = recursion_from_All (λ e. fin.get (map_of es) e.0 ≡ Some e.1) fs (All-permutation (λ e. fin.get (map_of es) e.0 ≡ Some e.1) es fs p (All-from_recursion (λ e. fin.get (map_of es) e.0 ≡ Some e.1) es (each_there [] es none))) in
    let has : (q : Row) → is_some (fin.get (map_of es) q) ≡ list_any (same_row q) (keys_of fs)
    = λ q. has_inserted row_total q es fin.empty ∙ ap (λ o. is_some o || list_any (same_row q) (keys_of es)) (get-empty row_cmp q)
    ∙ list_any-IsPermutation (same_row q) (keys_of es) (keys_of fs) (IsPermutation-map (λ e. e.0) es fs p) in
    ap fin.entries (same_map row_total row_exact (map_of es) (fin.from_sorted fs) (λ q. found (map_of es) q fs there (has q) ∙ sym (get-from_sorted row_cmp fs q up))) ∙ entries-from_sorted row_cmp fs up
