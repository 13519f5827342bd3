-- Going over columns in order of their names, group by group.
use Rattle.std.proofs.Common.{◌≡◌, ℕ, zero, suc, ◌+◌, ◌<◌, ◌≤◌, Bool, true, false, cond, List, [], ◌∷◌, ◌++◌, length, get_or, take, drop, Option, Some, None, Result, Ok, Err, refl, sym, ap, subst, ◌∙◌, arith, inl, inr, append_assoc, length-drop}
use Rattle.std.specs.Prelude.{◌⊎◌, not, slice_get}
use Rattle.std.specs.declared.cmp.Ordering.{Ordering}
use Rattle.std.specs.declared.cmp.Ordering.TheVariants.{Less, Equal, Greater}
use Rattle.std.specs.Ordering.{is_lt, ordering_reverse}
use Rattle.std.specs.Option.{option_map}
use Rattle.std.specs.List.{list_any, filter, filter_map, flat_map, cons_option, prefix_len}
use Rattle.std.specs.List.Sorted.{IsSortedBy, IsStableBy, ties}
use Rattle.std.proofs.lemmas.List.Sorted.{sorted_far, ranks_by}
use Rattle.std.proofs.lemmas.Cmp.{nat_list_cmp_total, tied_itself}
use Rattle.std.proofs.lemmas.Map.Lookups.{exact_bytes}
use Rattle.std.proofs.lemmas.Bool.{cond-true, cond-false, cases_Bool, true≢false}
use Rattle.dm_list.specs.Answer.{Answers, first_refusal, unless_refused}
use Rattle.dm_schema.specs.declared.column.Column.{Column}
use Rattle.dm_schema.specs.declared.column.Kind.TheVariants as kind
use Rattle.dm_schema.specs.declared.column.DefaultRule.TheVariants as default
use Rattle.dm_schema.specs.Layout.{Layout}
use Rattle.dm_schema.specs.Names.{Text, name_cmp, same_name, column_names}
use Rattle.dm_join.specs.declared.no_join.JoinCause.{JoinCause}
use Rattle.dm_join.specs.declared.no_join.JoinCause.TheVariants as cause
use Rattle.dm_schema.specs.declared.column.Kind.{Kind}
use Rattle.dm_schema.specs.KindOrder.{kind_at_most, same_family, comparable}
use Rattle.dm_join.specs.AtMost.{same_default}
use Rattle.dm_join.specs.declared.no_join.NoJoin.{NoJoin}
use Rattle.dm_join.specs.declared.no_join.NoJoin.TheVariants.{At, Memory}
use Rattle.dm_join.specs.NameSet.{name_set}
use Rattle.dm_join.specs.Join.{joined_column, greatest, refusals_at, is_memory, each_two, lacks_fill}
use Rattle.dm_join.specs.Groups.{comes_before, columns_named, leading, joined_of, cause_of, group_joined, columns_joined, with_front}
use Rattle.dm_join.proofs.Lists.{IsIn, in_map, from_map, in_filter, from_filter}
use Rattle.dm_join.proofs.NameLemmas.{same_is_equal, same_itself, same_from, not_same, ties_are_same}
use Rattle.dm_join.proofs.NameSetLemmas.{rising_alike, rising_set, in_set, from_set, not_before_itself, before_third, set_alike}

-- no column's name comes before that of an earlier one
abbrev pub IsOrdered : List Column → Type 0
IsOrdered [] = Unit {0}
IsOrdered (c ∷ cs) = ((d : Column) → IsIn d cs → comes_before d c ≡ false) × IsOrdered cs

place_of : (xs : List Column) (x : Column) → IsIn x xs → (i : ℕ) × (i < length xs) × (get_or xs i x ≡ x)
place_of [] x h = absurd h
place_of (y ∷ ys) x (inl is) = (0, omega arith, is)
place_of (y ∷ ys) x (inr h) = let r = place_of ys x h in let within : r.0 < length ys = r.1 in (suc r.0, omega arith, r.2)

abbrev FarApart : List Column → Type 0
FarApart cs = (i j : ℕ) (d : Column) → i ≤ j → j < length cs → comes_before (get_or cs j d) (get_or cs i d) ≡ false

ordered_far : (cs : List Column) → FarApart cs → IsOrdered cs
ordered_far [] far = tt
ordered_far (c ∷ cs) far = (
  λ d i. (let p = place_of cs d i in let within : p.0 < length cs = p.1 in ap (λ e. comes_before e c) (sym p.2) ∙ far 0 (suc p.0) d (omega arith) (omega arith)),
  ordered_far cs (λ i j d le lt. far (suc i) (suc j) d (omega arith) (omega arith)),
)

pub ordered_from_sort : (cs : List Column) → IsSortedBy comes_before cs → IsOrdered cs
ordered_from_sort cs up = ordered_far cs (sorted_far comes_before (ranks_by nat_list_cmp_total (λ (d : Column). d.name)) cs up)

pub ordered_drop : (k : ℕ) (cs : List Column) → IsOrdered cs → IsOrdered (drop k cs)
ordered_drop zero cs h = h
ordered_drop (suc k) [] h = tt
ordered_drop (suc k) (c ∷ cs) h = ordered_drop k cs h.1

-- a stable sort by name keeps the columns of each name
pub kept_by_sort : (xs ys : List Column) → IsStableBy comes_before xs ys → (name : Text) → columns_named ys name ≡ columns_named xs name
kept_by_sort xs ys stable name = alike ys ∙ stable like ∙ sym (alike xs) where
  like : Column
  like = record { name = name; kind = kind.Date; nullable = false; default_rule = default.Nothing }

  alike : (cs : List Column) → columns_named cs name ≡ filter (ties comes_before like) cs
  alike [] = refl
  alike (c ∷ cs) = ap (λ b. cond b (c ∷ columns_named cs name) (columns_named cs name)) (sym (ties_are_same name c.name)) ∙ ap (λ l. cond (ties comes_before like c) (c ∷ l) l) (alike cs)

-- the second name isn't before the first
abbrev pub IsUpTo : Text → Text → Type 0
IsUpTo n m = is_lt (name_cmp m n) ≡ false

less_by : (o : Ordering) → is_lt (ordering_reverse o) ≡ false → (o ≡ Equal → ⊥) → o ≡ Less
less_by Less e h = refl
less_by Equal e h = absurd (h refl)
less_by Greater e h = absurd (true≢false e)

-- a name that isn't before another and isn't that one is behind it
less_from : (n m : Text) → IsUpTo n m → same_name m n ≡ false → name_cmp n m ≡ Less
less_from n m up other =
    less_by (name_cmp n m) (ap is_lt (sym (nat_list_cmp_total.antisymm m n)) ∙ up)
    (λ e. let same : m ≡ n = sym (exact_bytes n m e) in true≢false (sym (same_from m n same) ∙ other))

not_before : (o : Ordering) → o ≡ Less → is_lt (ordering_reverse o) ≡ false
not_before Less e = refl
not_before Equal e = refl
not_before Greater e = cc

-- a name behind another isn't before what comes before that one
up_to_later : (n m l : Text) → name_cmp n m ≡ Less → IsUpTo m l → name_cmp n l ≡ Less
up_to_later n m l low up = by (cases_Bool (same_name l m)) where
  by : (same_name l m ≡ true) ⊎ (same_name l m ≡ false) → name_cmp n l ≡ Less
  by (inl same) = ap (name_cmp n) (same_is_equal l m same) ∙ low
  by (inr other) = before_third n m l low (less_from m l up other)

-- the columns at the front that have a name
abbrev pub group_size : Text → List Column → ℕ
group_size name columns = prefix_len (λ c. same_name c.name name) columns

unfoldable pub behind : Text → List Column → List Column
behind name columns = drop (group_size name columns) columns

behind_same : (name : Text) (c : Column) (cs : List Column) → same_name c.name name ≡ true → behind name (c ∷ cs) ≡ behind name cs
unfolding behind
behind_same name c cs e =
    let more : 1 + group_size name cs ≡ suc (group_size name cs) = omega arith in
    ap (λ n. drop n (c ∷ cs)) (cond-true (same_name c.name name) (1 + group_size name cs) 0 e ∙ more)

behind_other : (name : Text) (c : Column) (cs : List Column) → same_name c.name name ≡ false → behind name (c ∷ cs) ≡ c ∷ cs
unfolding behind
behind_other name c cs e = ap (λ n. drop n (c ∷ cs)) (cond-false (same_name c.name name) (1 + group_size name cs) 0 e)

pub group_same : (name : Text) (c : Column) (cs : List Column) → same_name c.name name ≡ true → take (group_size name (c ∷ cs)) (c ∷ cs) ≡ c ∷ take (group_size name cs) cs
group_same name c cs e =
    let more : 1 + group_size name cs ≡ suc (group_size name cs) = omega arith in
    ap (λ n. take n (c ∷ cs)) (cond-true (same_name c.name name) (1 + group_size name cs) 0 e ∙ more)

group_other : (name : Text) (c : Column) (cs : List Column) → same_name c.name name ≡ false → take (group_size name (c ∷ cs)) (c ∷ cs) ≡ []
group_other name c cs e = ap (λ n. take n (c ∷ cs)) (cond-false (same_name c.name name) (1 + group_size name cs) 0 e)

named_same : (name : Text) (c : Column) (cs : List Column) → same_name c.name name ≡ true → columns_named (c ∷ cs) name ≡ c ∷ columns_named cs name
named_same name c cs e = cond-true (same_name c.name name) (c ∷ columns_named cs name) (columns_named cs name) e

named_other : (name : Text) (c : Column) (cs : List Column) → same_name c.name name ≡ false → columns_named (c ∷ cs) name ≡ columns_named cs name
named_other name c cs e = cond-false (same_name c.name name) (c ∷ columns_named cs name) (columns_named cs name) e

-- no column is before a name
abbrev pub AllUpTo : Text → List Column → Type 0
AllUpTo name columns = (d : Column) → IsIn d columns → IsUpTo name d.name

none_named : (name : Text) (columns : List Column) → ((d : Column) → IsIn d columns → name_cmp name d.name ≡ Less) → columns_named columns name ≡ []
none_named name [] h = refl
none_named name (c ∷ cs) h =
    named_other name c cs (not_same c.name name (λ e. not_before_itself name (ap (name_cmp name) (sym e) ∙ h c (inl refl))))
    ∙ none_named name cs (λ d i. h d (inr i))

all_later : (name : Text) (c : Column) (cs : List Column) → IsOrdered (c ∷ cs) → name_cmp name c.name ≡ Less → (d : Column) → IsIn d cs → name_cmp name d.name ≡ Less
all_later name c cs h low d i = up_to_later name c.name d.name low (h.0 d i)

-- the columns of the least name are those at the front
pub named_at_front : (name : Text) (columns : List Column) → IsOrdered columns → AllUpTo name columns → columns_named columns name ≡ take (group_size name columns) columns
named_at_front name [] h up = refl
named_at_front name (c ∷ cs) h up = by (cases_Bool (same_name c.name name)) (named_at_front name cs h.1 (λ d i. up d (inr i))) where
  by : (same_name c.name name ≡ true) ⊎ (same_name c.name name ≡ false) → columns_named cs name ≡ take (group_size name cs) cs → columns_named (c ∷ cs) name ≡ take (group_size name (c ∷ cs)) (c ∷ cs)
  by (inl same) rest = named_same name c cs same ∙ ap (λ l. c ∷ l) rest ∙ sym (group_same name c cs same)
  by (inr other) rest =
      named_other name c cs other
      ∙ none_named name cs (all_later name c cs h (less_from name c.name (up c (inl refl)) other))
      ∙ sym (group_other name c cs other)

-- all columns behind them have greater names
pub behind_is_greater : (name : Text) (columns : List Column) → IsOrdered columns → AllUpTo name columns → (d : Column) → IsIn d (behind name columns) → name_cmp name d.name ≡ Less
unfolding behind
behind_is_greater name [] h up d i = absurd i
behind_is_greater name (c ∷ cs) h up d i = by (cases_Bool (same_name c.name name)) (behind_is_greater name cs h.1 (λ d i. up d (inr i))) where
  later : name_cmp name c.name ≡ Less → IsIn d (c ∷ cs) → name_cmp name d.name ≡ Less
  later low (inl is) = ap (λ (e : Column). name_cmp name e.name) (sym is) ∙ low
  later low (inr j) = all_later name c cs h low d j

  by : (same_name c.name name ≡ true) ⊎ (same_name c.name name ≡ false) → ((d : Column) → IsIn d (behind name cs) → name_cmp name d.name ≡ Less) → name_cmp name d.name ≡ Less
  by (inl same) rest = rest d (subst (IsIn d) (behind_same name c cs same) i)
  by (inr other) rest = later (less_from name c.name (up c (inl refl)) other) (subst (IsIn d) (behind_other name c cs other) i)

-- columns of other names all stand behind
pub named_behind : (name other : Text) (columns : List Column) → (name ≡ other → ⊥) → columns_named columns other ≡ columns_named (behind name columns) other
unfolding behind
named_behind name other [] differ = refl
named_behind name other (c ∷ cs) differ = by (cases_Bool (same_name c.name name)) (named_behind name other cs differ) where
  by : (same_name c.name name ≡ true) ⊎ (same_name c.name name ≡ false) → columns_named cs other ≡ columns_named (behind name cs) other → columns_named (c ∷ cs) other ≡ columns_named (behind name (c ∷ cs)) other
  by (inl same) rest =
      named_other other c cs (not_same c.name other (λ e. differ (sym (same_is_equal c.name name same) ∙ e)))
      ∙ rest ∙ ap (λ l. columns_named l other) (sym (behind_same name c cs same))
  by (inr not_it) rest = ap (λ l. columns_named l other) (sym (behind_other name c cs not_it))

pub front_or_behind : (name : Text) (columns : List Column) (d : Column) → IsIn d columns → (d.name ≡ name) ⊎ IsIn d (behind name columns)
unfolding behind
front_or_behind name [] d i = absurd i
front_or_behind name (c ∷ cs) d i = by (cases_Bool (same_name c.name name)) i (front_or_behind name cs d) where
  by : (same_name c.name name ≡ true) ⊎ (same_name c.name name ≡ false) → IsIn d (c ∷ cs) → (IsIn d cs → (d.name ≡ name) ⊎ IsIn d (behind name cs)) → (d.name ≡ name) ⊎ IsIn d (behind name (c ∷ cs))
  by (inl same) (inl is) rest = inl (ap (λ (e : Column). e.name) (sym is) ∙ same_is_equal c.name name same)
  by (inl same) (inr j) rest = later (rest j) where
    later : (d.name ≡ name) ⊎ IsIn d (behind name cs) → (d.name ≡ name) ⊎ IsIn d (behind name (c ∷ cs))
    later (inl e) = inl e
    later (inr k) = inr (subst (IsIn d) (sym (behind_same name c cs same)) k)
  by (inr other) j rest = inr (subst (IsIn d) (sym (behind_other name c cs other)) j)

in_drop : (k : ℕ) (columns : List Column) (d : Column) → IsIn d (drop k columns) → IsIn d columns
in_drop zero columns d i = i
in_drop (suc k) [] d i = i
in_drop (suc k) (c ∷ cs) d i = inr (in_drop k cs d i)

pub from_behind : (name : Text) (columns : List Column) (d : Column) → IsIn d (behind name columns) → IsIn d columns
unfolding behind
from_behind name columns d i = in_drop (group_size name columns) columns d i

abbrev name_of : Column → Text
name_of c = c.name

up_to_itself : (n : Text) → IsUpTo n n
up_to_itself n = ap is_lt (tied_itself nat_list_cmp_total n)

-- no column is before the first
pub all_up_to : (c : Column) (cs : List Column) → IsOrdered (c ∷ cs) → AllUpTo c.name (c ∷ cs)
all_up_to c cs h d (inl is) = subst (λ (e : Column). IsUpTo c.name e.name) is (up_to_itself c.name)
all_up_to c cs h d (inr i) = h.0 d i

-- the names are the first one and those of the columns behind its group
pub names_by_group : (c : Column) (cs : List Column) → IsOrdered (c ∷ cs) → name_set (column_names (c ∷ cs)) ≡ c.name ∷ name_set (column_names (behind c.name (c ∷ cs)))
names_by_group c cs h =
    rising_alike (name_set (column_names all)) (c.name ∷ name_set (column_names rest)) (rising_set (column_names all)) (above, rising_set (column_names rest)) to back where
      all : List Column
      all = c ∷ cs

      rest : List Column
      rest = behind c.name all

      above : (m : Text) → IsIn m (name_set (column_names rest)) → name_cmp c.name m ≡ Less
      above m i =
          let d = from_map name_of rest m (from_set (column_names rest) m i) in
          ap (name_cmp c.name) (sym d.2) ∙ behind_is_greater c.name all h (all_up_to c cs h) d.0 d.1

      to : (m : Text) → IsIn m (name_set (column_names all)) → IsIn m (c.name ∷ name_set (column_names rest))
      to m i = let d = from_map name_of all m (from_set (column_names all) m i) in by d.0 d.2 (front_or_behind c.name all d.0 d.1) where
        by : (d : Column) → d.name ≡ m → (d.name ≡ c.name) ⊎ IsIn d rest → IsIn m (c.name ∷ name_set (column_names rest))
        by d is (inl e) = inl (sym e ∙ is)
        by d is (inr j) = inr (in_set (column_names rest) m (subst (λ n. IsIn n (column_names rest)) is (in_map name_of rest d j)))

      back : (m : Text) → IsIn m (c.name ∷ name_set (column_names rest)) → IsIn m (name_set (column_names all))
      back m (inl e) = in_set (column_names all) m (inl e)
      back m (inr i) =
          let d = from_map name_of rest m (from_set (column_names rest) m i) in
          in_set (column_names all) m (subst (λ n. IsIn n (column_names all)) d.2 (in_map name_of all d.0 (from_behind c.name all d.0 d.1)))

flat_alike : {A : Type 0} (f g : Text → List A) (names : List Text) → ((m : Text) → IsIn m names → f m ≡ g m) → flat_map f names ≡ flat_map g names
flat_alike f g [] h = refl
flat_alike f g (n ∷ ns) h = ap (λ l. l ++ flat_map f ns) (h n (inl refl)) ∙ ap (λ l. g n ++ l) (flat_alike f g ns (λ m i. h m (inr i)))

filter_map_alike : {A : Type 0} (f g : Text → Option A) (names : List Text) → ((m : Text) → IsIn m names → f m ≡ g m) → filter_map f names ≡ filter_map g names
filter_map_alike f g [] h = refl
filter_map_alike f g (n ∷ ns) h = ap (λ o. cons_option o (filter_map f ns)) (h n (inl refl)) ∙ ap (λ l. cons_option (g n) l) (filter_map_alike f g ns (λ m i. h m (inr i)))

-- a join of columns asks of each list no more than its columns of each name
unfoldable pub joined_by : List Layout → (Text → List Column) → List Text → Result (List Column) NoJoin
joined_by schemas of names = unless_refused (first_refusal (flat_map (λ name. refusals_at schemas name (of name)) names)) (filter_map (λ name. joined_column (of name)) names)

pub joined_by_alike : (schemas : List Layout) (f g : Text → List Column) (names : List Text) → ((m : Text) → IsIn m names → f m ≡ g m) → joined_by schemas f names ≡ joined_by schemas g names
unfolding joined_by
joined_by_alike schemas f g names h =
    ap (λ rs. unless_refused (first_refusal rs) (filter_map (λ name. joined_column (f name)) names))
    (flat_alike (λ name. refusals_at schemas name (f name)) (λ name. refusals_at schemas name (g name)) names (λ m i. ap (refusals_at schemas m) (h m i)))
    ∙ ap (λ l. unless_refused (first_refusal (flat_map (λ name. refusals_at schemas name (g name)) names)) l)
    (filter_map_alike (λ name. joined_column (f name)) (λ name. joined_column (g name)) names (λ m i. ap joined_column (h m i)))

pub is_joined_by : (schemas : List Layout) (columns : List Column) → columns_joined schemas columns ≡ joined_by schemas (columns_named columns) (name_set (column_names columns))
unfolding joined_by
is_joined_by schemas columns = refl

-- lists that have the same columns of each name are joined alike
pub columns_joined_alike : (schemas : List Layout) (xs ys : List Column) → ((name : Text) → columns_named xs name ≡ columns_named ys name) → columns_joined schemas xs ≡ columns_joined schemas ys
columns_joined_alike schemas xs ys h =
    is_joined_by schemas xs
    ∙ joined_by_alike schemas (columns_named xs) (columns_named ys) (name_set (column_names xs)) (λ m i. h m)
    ∙ ap (joined_by schemas (columns_named ys)) (set_alike (column_names xs) (column_names ys) (has xs ys h) (has ys xs (λ m. sym (h m))))
    ∙ sym (is_joined_by schemas ys) where
      has : (us vs : List Column) → ((name : Text) → columns_named us name ≡ columns_named vs name) → (m : Text) → IsIn m (column_names us) → IsIn m (column_names vs)
      has us vs same m i =
          let d = from_map name_of us m i in
          let there : IsIn d.0 (columns_named vs m) = subst (IsIn d.0) (same m) (in_filter (λ c. same_name c.name m) us d.0 d.1 (same_from d.0.name m d.2)) in
          subst (λ n. IsIn n (column_names vs)) d.2 (in_map name_of vs d.0 (from_filter (λ c. same_name c.name m) vs d.0 there).0)

pub refusal_of_both : {E : Type 0} (rs qs : List (Bool × E)) → first_refusal rs ≡ None → first_refusal (rs ++ qs) ≡ first_refusal qs
refusal_of_both [] qs e = refl
refusal_of_both (r ∷ rs) qs e = by r.0 e (refusal_of_both rs qs) where
  by : (b : Bool) → cond b (Some r.1) (first_refusal rs) ≡ None → (first_refusal rs ≡ None → first_refusal (rs ++ qs) ≡ first_refusal qs) → cond b (Some r.1) (first_refusal (rs ++ qs)) ≡ first_refusal qs
  by true e rest = absurd (cc e)
  by false e rest = rest e

pub refusal_of_first : {E : Type 0} (rs qs : List (Bool × E)) (fault : E) → first_refusal rs ≡ Some fault → first_refusal (rs ++ qs) ≡ Some fault
refusal_of_first [] qs fault e = absurd (cc e)
refusal_of_first (r ∷ rs) qs fault e = by r.0 e (refusal_of_first rs qs fault) where
  by : (b : Bool) → cond b (Some r.1) (first_refusal rs) ≡ Some fault → (first_refusal rs ≡ Some fault → first_refusal (rs ++ qs) ≡ Some fault) → cond b (Some r.1) (first_refusal (rs ++ qs)) ≡ Some fault
  by true e rest = e
  by false e rest = rest e

-- the join begins with that of the first group
by_group : (schemas : List Layout) (c : Column) (cs : List Column) → IsOrdered (c ∷ cs)
    → columns_joined schemas (c ∷ cs)
    ≡ unless_refused
    (first_refusal (refusals_at schemas c.name (take (group_size c.name (c ∷ cs)) (c ∷ cs)) ++ flat_map (λ name. refusals_at schemas name (columns_named (behind c.name (c ∷ cs)) name)) (name_set (column_names (behind c.name (c ∷ cs))))))
    (cons_option (joined_column (take (group_size c.name (c ∷ cs)) (c ∷ cs))) (filter_map (λ name. joined_column (columns_named (behind c.name (c ∷ cs)) name)) (name_set (column_names (behind c.name (c ∷ cs))))))
unfolding joined_by
by_group schemas c cs h =
    ap (joined_by schemas (columns_named all)) (names_by_group c cs h)
    ∙ ap (λ g. unless_refused (first_refusal (refusals_at schemas c.name g ++ flat_map (λ name. refusals_at schemas name (columns_named all name)) later)) (cons_option (joined_column g) (filter_map (λ name. joined_column (columns_named all name)) later)))
    (named_at_front c.name all h (all_up_to c cs h))
    ∙ ap (λ rs. unless_refused (first_refusal (refusals_at schemas c.name group ++ rs)) (cons_option (joined_column group) (filter_map (λ name. joined_column (columns_named all name)) later)))
    (flat_alike (λ name. refusals_at schemas name (columns_named all name)) (λ name. refusals_at schemas name (columns_named rest name)) later (λ m i. ap (refusals_at schemas m) (same m i)))
    ∙ ap (λ l. unless_refused (first_refusal (refusals_at schemas c.name group ++ flat_map (λ name. refusals_at schemas name (columns_named rest name)) later)) (cons_option (joined_column group) l))
    (filter_map_alike (λ name. joined_column (columns_named all name)) (λ name. joined_column (columns_named rest name)) later (λ m i. ap joined_column (same m i))) where
      all : List Column
      all = c ∷ cs

      rest : List Column
      rest = behind c.name all

      later : List Text
      later = name_set (column_names rest)

      group : List Column
      group = take (group_size c.name all) all

      same : (m : Text) → IsIn m later → columns_named all m ≡ columns_named rest m
      same m i =
          let d = from_map name_of rest m (from_set (column_names rest) m i) in
          let low : name_cmp c.name m ≡ Less = ap (name_cmp c.name) (sym d.2) ∙ behind_is_greater c.name all h (all_up_to c cs h) d.0 d.1 in
          named_behind c.name m all (λ e. not_before_itself m (ap (λ n. name_cmp n m) (sym e) ∙ low))

-- what the first group's join makes of the whole
abbrev pub after_group : Result Column NoJoin → Result (List Column) NoJoin → Result (List Column) NoJoin
after_group (Ok column) rest = with_front (column ∷ []) rest
after_group (Err fault) rest = Err fault

after_refusals : (first second : List (Bool × NoJoin)) (column : Column) (columns : List Column)
    → unless_refused (first_refusal (first ++ second)) (column ∷ columns) ≡ after_group (unless_refused (first_refusal first) column) (unless_refused (first_refusal second) columns)
after_refusals first second column columns = by (first_refusal first) refl where
  goes_on : (o : Option NoJoin) → unless_refused o (column ∷ columns) ≡ with_front (column ∷ []) (unless_refused o columns)
  goes_on None = refl
  goes_on (Some fault) = refl

  by : (o : Option NoJoin) → first_refusal first ≡ o → unless_refused (first_refusal (first ++ second)) (column ∷ columns) ≡ after_group (unless_refused o column) (unless_refused (first_refusal second) columns)
  by None e = ap (λ o. unless_refused o (column ∷ columns)) (refusal_of_both first second e) ∙ goes_on (first_refusal second)
  by (Some fault) e = ap (λ o. unless_refused o (column ∷ columns)) (refusal_of_first first second fault e)

-- The join of columns in order of names: that of the first group, and then that of the columns behind it.
pub joined_by_groups : (schemas : List Layout) (c : Column) (cs : List Column) → IsOrdered (c ∷ cs)
    → columns_joined schemas (c ∷ cs) ≡ after_group (group_joined schemas (take (group_size c.name (c ∷ cs)) (c ∷ cs))) (columns_joined schemas (drop (group_size c.name (c ∷ cs)) (c ∷ cs)))
unfolding behind
joined_by_groups schemas c cs h =
    by_group schemas c cs h
    ∙ ap (λ g. unless_refused (first_refusal (refusals_at schemas c.name g ++ second)) (cons_option (joined_column g) columns)) shape
    ∙ after_refusals (refusals_at schemas c.name (c ∷ others)) second (joined_of c others) columns
    ∙ ap (λ g. after_group (group_joined schemas g) (columns_joined schemas rest)) (sym shape) where
      rest : List Column
      rest = drop (group_size c.name (c ∷ cs)) (c ∷ cs)

      others : List Column
      others = take (group_size c.name cs) cs

      second : List (Bool × NoJoin)
      second = flat_map (λ name. refusals_at schemas name (columns_named rest name)) (name_set (column_names rest))

      columns : List Column
      columns = filter_map (λ name. joined_column (columns_named rest name)) (name_set (column_names rest))

      shape : take (group_size c.name (c ∷ cs)) (c ∷ cs) ≡ c ∷ others
      shape = group_same c.name c cs (same_itself c.name)

size_within : (name : Text) (columns : List Column) → group_size name columns ≤ length columns
size_within name [] = omega arith
size_within name (c ∷ cs) = by (same_name c.name name) (size_within name cs) where
  by : (b : Bool) → group_size name cs ≤ length cs → cond b (1 + group_size name cs) 0 ≤ suc (length cs)
  by true h = omega arith
  by false h = omega arith

-- the front of a list, as a loop over groups takes it
pub group_within : (first : Column) (rest : List Column) (k : ℕ) → k ≡ leading first.name rest → k ≤ length rest
group_within first rest k e = omega (arith, size_within first.name rest)

pub group_is_there : (first : Column) (rest group : List Column) (k : ℕ) → Some first ≡ slice_get rest 0 → k ≡ leading first.name rest → group ≡ take k rest → 0 < length group
group_is_there first [] group k is size front = absurd (cc is)
group_is_there first (c ∷ cs) group k is size front =
    let one : first ≡ c = cc is in
    let shape : group ≡ c ∷ take (group_size c.name cs) cs = front ∙ ap (λ n. take n (c ∷ cs)) (size ∙ ap (λ (d : Column). leading d.name (c ∷ cs)) one) ∙ group_same c.name c cs (same_itself c.name) in
    subst (λ l. 0 < length l) (sym shape) (omega arith)

pub rest_is_shorter : (first : Column) (rest back : List Column) (k : ℕ) → Some first ≡ slice_get rest 0 → k ≡ leading first.name rest → back ≡ drop k rest → length back < length rest
unfolding behind
rest_is_shorter first [] back k is size is_back = absurd (cc is)
rest_is_shorter first (c ∷ cs) back k is size is_back =
    let one : first ≡ c = cc is in
    let shape : back ≡ drop (group_size c.name cs) cs = is_back ∙ ap (λ n. drop n (c ∷ cs)) (size ∙ ap (λ (d : Column). leading d.name (c ∷ cs)) one) ∙ drop_same c cs in
    subst (λ l. length l < suc (length cs)) (sym shape) (omega (arith, length-drop (group_size c.name cs) cs)) where
      drop_same : (c : Column) (cs : List Column) → drop (group_size c.name (c ∷ cs)) (c ∷ cs) ≡ drop (group_size c.name cs) cs
      drop_same c cs = behind_same c.name c cs (same_itself c.name)

pub group_step : (schemas : List Layout) (first : Column) (rest group back : List Column) (k : ℕ) → Some first ≡ slice_get rest 0 → k ≡ leading first.name rest → group ≡ take k rest → back ≡ drop k rest → IsOrdered rest
    → columns_joined schemas rest ≡ after_group (group_joined schemas group) (columns_joined schemas back)
group_step schemas first [] group back k is size front is_back h = absurd (cc is)
group_step schemas first (c ∷ cs) group back k is size front is_back h =
    let one : first ≡ c = cc is in
    let size_is : k ≡ group_size c.name (c ∷ cs) = size ∙ ap (λ (d : Column). leading d.name (c ∷ cs)) one in
    joined_by_groups schemas c cs h
    ∙ ap (λ n. after_group (group_joined schemas (take n (c ∷ cs))) (columns_joined schemas (drop n (c ∷ cs)))) (sym size_is)
    ∙ ap (λ g. after_group (group_joined schemas g) (columns_joined schemas (drop k (c ∷ cs)))) (sym front)
    ∙ ap (λ b. after_group (group_joined schemas group) (columns_joined schemas b)) (sym is_back)

-- one more turn of the loop over groups
pub joined_more : (joined : List Column) (column : Column) (before : Result Column NoJoin) (whole rest back : Result (List Column) NoJoin)
    → Ok column ≡ before → rest ≡ after_group before back → with_front joined rest ≡ whole → with_front (joined ++ column ∷ []) back ≡ whole
joined_more joined column before whole rest back ok step so_far =
    goes_on back ∙ ap (λ b. with_front joined (after_group b back)) ok ∙ ap (with_front joined) (sym step) ∙ so_far where
      goes_on : (r : Result (List Column) NoJoin) → with_front (joined ++ column ∷ []) r ≡ with_front joined (with_front (column ∷ []) r)
      goes_on (Ok more) = ap Ok (append_assoc joined (column ∷ []) more)
      goes_on (Err fault) = refl

-- a group that has no join
pub joined_no_more : (joined : List Column) (fault : NoJoin) (before : Result Column NoJoin) (whole rest back : Result (List Column) NoJoin)
    → Err fault ≡ before → rest ≡ after_group before back → with_front joined rest ≡ whole → Err fault ≡ whole
joined_no_more joined fault before whole rest back none step so_far =
    ap (λ b. with_front joined (after_group b back)) none ∙ ap (with_front joined) (sym step) ∙ so_far

-- an answer by another's, where want of memory is free
pub err_answers : (fault : NoJoin) (one other : Result (List Column) NoJoin) → (Err fault ≡ one → Err fault ≡ other) → Answers is_memory (Err fault) one → Answers is_memory (Err fault) other
err_answers fault one other h answers = by fault h answers where
  by : (f : NoJoin) → (Err f ≡ one → Err f ≡ other) → Answers is_memory (Err f) one → Answers is_memory (Err f) other
  by (At column why) h answers = h answers
  by Memory h answers = tt

pub group_err_answers : (fault : NoJoin) (one : Result Column NoJoin) (other : Result (List Column) NoJoin) → (Err fault ≡ one → Err fault ≡ other) → Answers is_memory (Err fault) one → Answers is_memory (Err fault) other
group_err_answers fault one other h answers = by fault h answers where
  by : (f : NoJoin) → (Err f ≡ one → Err f ≡ other) → Answers is_memory (Err f) one → Answers is_memory (Err f) other
  by (At column why) h answers = h answers
  by Memory h answers = tt

causes_named : (name : Text) (a b c d : Bool)
    → first_refusal ((a, At name cause.Family) ∷ (b, At name cause.KindDiffers) ∷ (c, At name cause.DefaultDiffers) ∷ (d, At name cause.MissingNoFill) ∷ [])
    ≡ option_map (At name) (first_refusal ((a, cause.Family) ∷ (b, cause.KindDiffers) ∷ (c, cause.DefaultDiffers) ∷ (d, cause.MissingNoFill) ∷ []))
causes_named name true b c d = refl
causes_named name false true c d = refl
causes_named name false false true d = refl
causes_named name false false false true = refl
causes_named name false false false false = refl

-- the first refusal of a group, from its cause
refusal_by_cause : (schemas : List Layout) (c : Column) (cs : List Column) → first_refusal (refusals_at schemas c.name (c ∷ cs)) ≡ option_map (At c.name) (cause_of schemas (c ∷ cs) (joined_of c cs))
refusal_by_cause schemas c cs =
    causes_named c.name (not (each_two (λ a b. same_family a.kind b.kind) (c ∷ cs))) (not (each_two (λ a b. comparable a.kind b.kind) (c ∷ cs)))
    (not (each_two (λ a b. same_default a.default_rule b.default_rule) (c ∷ cs))) (lacks_fill schemas (c ∷ cs) (Some (joined_of c cs)))

pub group_refused : (schemas : List Layout) (group : List Column) (joined : Column) (why : JoinCause) → joined_column group ≡ Some joined → Some why ≡ cause_of schemas group joined → Err (At joined.name why) ≡ group_joined schemas group
group_refused schemas [] joined why is cause = absurd (cc is)
group_refused schemas (c ∷ cs) joined why is cause =
    let made : joined ≡ joined_of c cs = cc is in
    ap (λ (d : Column). Err (At d.name why)) made
    ∙ ap (λ o. unless_refused (option_map (At c.name) o) (joined_of c cs)) (cause ∙ ap (cause_of schemas (c ∷ cs)) made)
    ∙ ap (λ o. unless_refused o (joined_of c cs)) (sym (refusal_by_cause schemas c cs))

pub group_accepted : (schemas : List Layout) (group : List Column) (joined : Column) → joined_column group ≡ Some joined → None ≡ cause_of schemas group joined → Ok joined ≡ group_joined schemas group
group_accepted schemas [] joined is cause = absurd (cc is)
group_accepted schemas (c ∷ cs) joined is cause =
    let made : joined ≡ joined_of c cs = cc is in
    ap Ok made
    ∙ ap (λ o. unless_refused (option_map (At c.name) o) (joined_of c cs)) (cause ∙ ap (cause_of schemas (c ∷ cs)) made)
    ∙ ap (λ o. unless_refused o (joined_of c cs)) (sym (refusal_by_cause schemas c cs))

-- a kind is the greater one of it and itself
either_way : (b : Bool) (k : Kind) → cond b k k ≡ k
either_way true k = refl
either_way false k = refl

pub first_of_group : (group : List Column) (first joined : Column) → 0 < length group → first ≡ get_or group 0 first
    → joined ≡ record { name = first.name; kind = greatest first.kind group; nullable = list_any (λ d. d.nullable) group; default_rule = first.default_rule }
    → joined_column group ≡ Some joined
first_of_group [] first joined some is made = absurd (omega arith)
first_of_group (c ∷ cs) first joined some is made =
    sym (ap Some (made
    ∙ ap (λ (d : Column). record { name = d.name; kind = greatest d.kind (c ∷ cs); nullable = list_any (λ e. e.nullable) (c ∷ cs); default_rule = d.default_rule }) is
    ∙ ap (λ k. record { name = c.name; kind = greatest k cs; nullable = list_any (λ e. e.nullable) (c ∷ cs); default_rule = c.default_rule }) (either_way (kind_at_most c.kind c.kind) c.kind)))

pub with_none : (r : Result (List Column) NoJoin) → with_front [] r ≡ r
with_none (Ok columns) = refl
with_none (Err fault) = refl
