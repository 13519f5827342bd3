-- The sorted entries of a program's map, as a finite map.
use Rattle.std.proofs.Common.{◌≡◌, Bool, true, false, cond, ◌&&◌, List, [], ◌∷◌, Some, None, refl, sym, ap, subst, ◌∙◌}
use Rattle.std.specs.Prelude.{T}
use Rattle.std.specs.declared.cmp.Ordering.{Ordering}
use Rattle.std.specs.declared.cmp.Ordering.TheVariants.{Less, Equal, Greater}
use Rattle.std.specs.Ordering.{is_lt, is_eq, eq_by_cmp}
use Rattle.std.specs.Cmp.{IsTotalOrder}
use Rattle.std.specs.List.Sorted.{IsStrictlySortedBy}
use Rattle.std.specs.List.{AllByRecursion}
use Rattle.std.specs.BTreeMap.{BTreeMap, IsOrdered, UpdatesBy, get, is_at}
use Rattle.std.specs.Option.{option_or}
use Rattle.std.specs.Map.{keys_of, lookup}
use Rattle.std.specs.FinMap as fin
use Rattle.std.specs.FinMap.{FinMap, IsAntisymmetric, find, entries-from_sorted, get-from_sorted, get-from_entries, get-insert, get-entries, entries_sorted, same_map}
use Rattle.std.specs.FinMap.Entries.{is_sorted, below_all}
use Rattle.std.proofs.lemmas.Bool.{false≢true, cond-false}
use Rattle.std.proofs.lemmas.Cmp.{eq_by_cmp_equiv}

-- a look-up in entries
found_is_looked_up : {K X : Type 0} (R : K → K → Ordering) (q : K) (es : List (K × X)) → find R q es ≡ lookup (is_at (R q)) es
found_is_looked_up R q [] = refl
found_is_looked_up R q (e ∷ es) = ap (cond (eq_by_cmp R q e.0) (Some e.1)) (found_is_looked_up R q es)

pub get_kept : {K X : Type 0} {R : K → K → Ordering} → IsTotalOrder R → (m : BTreeMap K X) (q : K) → get R m q ≡ fin.get (fin.from_entries {R = R} m.entries) q
get_kept {R = R} total m q = sym (found_is_looked_up R q m.entries) ∙ sym (get-from_entries total m.entries q)

both : (a b : Bool) → T a → T b → T (a && b)
both true b x y = y
both false b x y = absurd x

first : (a b : Bool) → T (a && b) → T a
first true b p = tt
first false b p = p

second : (a b : Bool) → T (a && b) → T b
second true b p = p
second false b p = absurd p

-- a strictly sorted list is one as the finite maps test it
below : {K X : Type 0} (R : K → K → Ordering) (k : K) (es : List (K × X)) → AllByRecursion (λ q. R k q ≡ Less) (keys_of es) → T (below_all R k es)
below R k [] h = tt
below R k (e ∷ es) h = both _ _ (subst (λ o. T (is_lt o)) (sym h.0) tt) (below R k es h.1)

in_order : {K X : Type 0} (R : K → K → Ordering) (es : List (K × X)) → IsStrictlySortedBy R (keys_of es) → T (is_sorted R es)
unfolding IsStrictlySortedBy
in_order R [] h = tt
in_order R (e ∷ es) h = both _ _ (below R e.0 es h.0) (in_order R es h.1)

-- a finite map that is made of sorted entries has these entries
pub entries_kept : {K X : Type 0} {R : K → K → Ordering} → IsTotalOrder R → IsAntisymmetric R → (m : BTreeMap K X) → IsOrdered R m → fin.entries (fin.from_entries {R = R} m.entries) ≡ m.entries
entries_kept {R = R} total exact m h =
    let es = m.entries in
    ap fin.entries (same_map total exact (fin.from_entries es) (fin.from_sorted es) (λ q. get-from_entries total es q ∙ sym (get-from_sorted R es q (in_order R es h))))
    ∙ entries-from_sorted R es (in_order R es h)

pub inserted : {K X : Type 0} {R : K → K → Ordering} → IsTotalOrder R → IsAntisymmetric R → (m n : BTreeMap K X) (k : K) (v : X) → UpdatesBy R (R k) m n (Some v) →
    fin.from_entries {R = R} n.entries ≡ fin.insert (fin.from_entries m.entries) k v
inserted {R = R} total exact m n k v h = same_map total exact _ _ (λ q.
    sym (get_kept total n q) ∙ h.0 q ∙ ap (λ b. cond b (Some v) (get R m q)) ((eq_by_cmp_equiv total).symm k q) ∙ ap (cond (eq_by_cmp R q k) (Some v)) (get_kept total m q)
    ∙ sym (get-insert total (fin.from_entries m.entries) k v q))

-- entries over those of a map
abbrev pub over : {K X : Type 0} {R : K → K → Ordering} → FinMap R X → List (K × X) → FinMap R X
over m [] = m
over m (e ∷ es) = fin.insert (over m es) e.0 e.1

over_nothing : {K X : Type 0} {R : K → K → Ordering} (es : List (K × X)) → over {R = R} fin.empty es ≡ fin.from_entries es
over_nothing [] = refl
over_nothing {X = X} {R = R} (e ∷ es) = ap (λ (m : FinMap R X). fin.insert m e.0 e.1) (over_nothing es)

get-over : {K X : Type 0} {R : K → K → Ordering} → IsTotalOrder R → (m : FinMap R X) (es : List (K × X)) (q : K) → fin.get (over m es) q ≡ option_or (find R q es) (fin.get m q)
get-over total m [] q = refl
get-over {X = X} {R = R} total m (e ∷ es) q = get-insert total (over m es) e.0 e.1 q ∙ by (eq_by_cmp R q e.0) (get-over total m es q) where
  by : (b : Bool) → fin.get (over m es) q ≡ option_or (find R q es) (fin.get m q) → cond b (Some e.1) (fin.get (over m es) q) ≡ option_or (cond b (Some e.1) (find R q es)) (fin.get m q)
  by true h = refl
  by false h = h

tied : (o : Ordering) → is_eq o ≡ true → o ≡ Equal
tied Less h = absurd (false≢true h)
tied Equal h = refl
tied Greater h = absurd (false≢true h)

-- a key that isn't among the entries may be put first
put_first : {K X : Type 0} {R : K → K → Ordering} → IsTotalOrder R → IsAntisymmetric R → (m : FinMap R X) (k : K) (v : X) (es : List (K × X)) → find R k es ≡ None →
    over (fin.insert m k v) es ≡ fin.insert (over m es) k v
put_first {K} {X} {R} total exact m k v es absent = same_map total exact _ _ (λ q.
    get-over total (fin.insert m k v) es q ∙ ap (option_or (find R q es)) (get-insert total m k v q) ∙ by q (eq_by_cmp R q k) refl
    ∙ sym (ap (cond (eq_by_cmp R q k) (Some v)) (get-over total m es q)) ∙ sym (get-insert total (over m es) k v q)) where
      by : (q : K) (b : Bool) → eq_by_cmp R q k ≡ b → option_or (find R q es) (cond (eq_by_cmp R q k) (Some v) (fin.get m q)) ≡ cond (eq_by_cmp R q k) (Some v) (option_or (find R q es) (fin.get m q))
      by q true same =
          let here : find R q es ≡ None = ap (λ (x : K). find R x es) (exact q k (tied (R q k) same)) ∙ absent in
          ap (λ b. option_or (find R q es) (cond b (Some v) (fin.get m q))) same ∙ ap (λ o. option_or o (Some v)) here
          ∙ sym (ap (λ b. cond b (Some v) (option_or (find R q es) (fin.get m q))) same)
      by q false other = ap (λ b. option_or (find R q es) (cond b (Some v) (fin.get m q))) other ∙ sym (ap (λ b. cond b (Some v) (option_or (find R q es) (fin.get m q))) other)

-- the first of sorted entries is not among the others
apart : {K X : Type 0} (R : K → K → Ordering) (k : K) (es : List (K × X)) → T (below_all R k es) → find R k es ≡ None
apart R k [] h = refl
apart R k (e ∷ es) h = cond-false (eq_by_cmp R k e.0) (Some e.1) (find R k es) (less (R k e.0) (first _ _ h)) ∙ apart R k es (second _ _ h) where
  less : (o : Ordering) → T (is_lt o) → is_eq o ≡ false
  less Less f = refl
  less Equal f = absurd f
  less Greater f = absurd f

-- what a loop over entries keeps: those to come over those that were put, and their order
pub record Puts {K X : Type 0} {R : K → K → Ordering} (made : FinMap R X) (es : List (K × X)) (total : FinMap R X) : Type 0 where
  pub whole : over made es ≡ total
  pub ordered : T (is_sorted R es)

-- a map is made of its entries
entries_make : {K X : Type 0} {R : K → K → Ordering} → IsTotalOrder R → IsAntisymmetric R → (m : FinMap R X) → fin.from_entries (fin.entries m) ≡ m
entries_make total exact m = same_map total exact _ _ (λ q. get-from_entries total (fin.entries m) q ∙ sym (get-entries m q))

pub puts_begin : {K X : Type 0} {R : K → K → Ordering} → IsTotalOrder R → IsAntisymmetric R → (made : FinMap R X) (es : List (K × X)) (m : FinMap R X) → made ≡ fin.empty → es ≡ fin.entries m → Puts made es m
puts_begin {K} {X} {R} total exact made es m none all = record {
  whole = ap (λ (x : FinMap R X). over x es) none ∙ over_nothing es ∙ ap (λ (xs : List (K × X)). fin.from_entries xs) all ∙ entries_make total exact m;
  ordered = subst (λ (xs : List (K × X)). T (is_sorted R xs)) (sym all) (entries_sorted m);
}

pub puts_one : {K X : Type 0} {R : K → K → Ordering} → IsTotalOrder R → IsAntisymmetric R → (made now all : FinMap R X) (k : K) (v : X) (key : K) (value : X) (before es : List (K × X)) →
    before ≡ (k, v) ∷ es → key ≡ k → value ≡ v → now ≡ fin.insert made key value → Puts made before all → Puts now es all
puts_one {K} {X} {R} total exact made now all k v key value before es is same_key same_value put h = record {
  whole = ap (λ (m : FinMap R X). over m es) (put ∙ ap (λ (q : K). fin.insert made q value) same_key ∙ ap (λ (x : X). fin.insert made k x) same_value)
      ∙ put_first total exact made k v es (apart R k es (first _ _ ordered)) ∙ ap (over made) (sym is) ∙ h.whole;
  ordered = second _ _ ordered;
} where
  ordered : T (is_sorted R ((k, v) ∷ es))
  ordered = subst (λ (xs : List (K × X)). T (is_sorted R xs)) is h.ordered
