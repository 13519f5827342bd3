-- Changes of which each goes behind those before it, and layouts between two schemas, of which a schema can be made.
use Rattle.std.proofs.Common.{◌≡◌, suc, ◌≤◌, Bool, true, false, cond, List, [], ◌∷◌, ◌++◌, length, map, Some, None, Ok, refl, sym, ap, subst, ◌∙◌, inl, inr, arith, append_assoc, append-nil}
use Rattle.std.specs.Prelude.{◌⊎◌, ◌||◌, not}
use Rattle.std.specs.List.{list_any, filter}
use Rattle.std.proofs.lemmas.Bool.{or_left, or_from, not_from_true, not_from_false, cond-false, both_ways}
use Rattle.std.proofs.lemmas.List.Folds.{list_any-append}
use Rattle.dm_list.specs.Answer.{first_refusal}
use Rattle.dm_schema.specs.declared.column.Column.{Column}
use Rattle.dm_schema.specs.declared.column.UniqueKey.{UniqueKey}
use Rattle.dm_schema.specs.declared.change.Change.{Change}
use Rattle.dm_schema.specs.Layout.{Layout}
use Rattle.dm_schema.specs.Names.{Text, same_name, column_at, has_column}
use Rattle.dm_schema.specs.Schemas.{all_columns, joined_schema_of}
use Rattle.dm_schema.specs.Effect.{Reading, is_among, has_key, replaced, without_column, refusals_of, changed, step, steps}
use Rattle.dm_join.proofs.Lists.{IsIn, all_of, any_of, any_from, none_of, none_from, in_filter, from_filter, from_map, in_either}
use Rattle.dm_join.proofs.NameLemmas.{same_is_equal, same_itself, not_same}
use Rattle.dm_join.proofs.Orders.{AreApart, column_name, length_filtered, apart_filtered}
use Rattle.dm_join.proofs.Formed.{Formed, formed_makes}
use Rattle.dm_join.proofs.JoinFormed.{unique_name}
use Rattle.dm_join.proofs.EffectLaws.{after, step_passed, made_ok, removed, moved_to}

-- Changes of which none is refused.

abbrev pub NoneHolds : {E : Type 0} → List (Bool × E) → Type 0
NoneHolds [] = Unit {0}
NoneHolds (r ∷ rs) = (r.0 ≡ false) × NoneHolds rs

none_refused : {E : Type 0} (rs : List (Bool × E)) → NoneHolds rs → first_refusal rs ≡ None
none_refused [] h = refl
none_refused (r ∷ rs) h = cond-false r.0 (Some r.1) (first_refusal rs) h.0 ∙ none_refused rs h.1

-- a change that isn't refused, behind which a schema can be made
pub record Goes (read : Reading) (before : List Change) (a : Layout) (c : Change) : Type 0 where
  pub allowed : NoneHolds (refusals_of read before a c)
  pub formed : Formed (changed read a c)

-- changes of which each goes, behind those before it
abbrev pub Pass : Reading → List Change → Layout → List Change → Type 0
Pass read before a [] = Unit {0}
Pass read before a (c ∷ cs) = Goes read before a c × Pass read (before ++ c ∷ []) (changed read a c) cs

one_step : (read : Reading) (before : List Change) (a : Layout) (c : Change) → Goes read before a c → step joined_schema_of read before a c ≡ Ok (changed read a c)
one_step read before a c goes =
    step_passed joined_schema_of read before a c (none_refused (refusals_of read before a c) goes.allowed)
    ∙ made_ok joined_schema_of (changed read a c) (changed read a c) (formed_makes (changed read a c) goes.formed)

pub all_steps : (read : Reading) (before : List Change) (a : Layout) (cs : List Change) → Pass read before a cs → steps joined_schema_of read before (Ok a) cs ≡ Ok (after read a cs)
all_steps read before a [] pass = refl
all_steps read before a (c ∷ cs) pass =
    ap (λ r. steps joined_schema_of read (before ++ c ∷ []) r cs) (one_step read before a c pass.0)
    ∙ all_steps read (before ++ c ∷ []) (changed read a c) cs pass.1

pub both_pass : (read : Reading) (before : List Change) (a : Layout) (xs ys : List Change) → Pass read before a xs → Pass read (before ++ xs) (after read a xs) ys → Pass read before a (xs ++ ys)
both_pass read before a [] ys one two = subst (λ b. Pass read b a ys) (append-nil before) two
both_pass read before a (x ∷ xs) ys one two =
    (one.0, both_pass read (before ++ x ∷ []) (changed read a x) xs ys one.1 (subst (λ b. Pass read b (after read (changed read a x) xs) ys) (sym (append_assoc before (x ∷ []) xs)) two))

-- Lists.

pub none_both : {A : Type 0} (test : A → Bool) (xs ys : List A) → list_any test xs ≡ false → list_any test ys ≡ false → list_any test (xs ++ ys) ≡ false
none_both test xs ys e f = list_any-append test xs ys ∙ or_from (list_any test xs) (list_any test ys) e f

pub none_with : {A : Type 0} (test : A → Bool) (xs : List A) (x : A) → list_any test xs ≡ false → test x ≡ false → list_any test (xs ++ x ∷ []) ≡ false
none_with test xs x e f = none_both test xs (x ∷ []) e (or_from (test x) false f refl)

pub none_mapped : {A B : Type 0} (test : B → Bool) (f : A → B) (xs : List A) → ((x : A) → IsIn x xs → test (f x) ≡ false) → list_any test (map f xs) ≡ false
none_mapped test f [] h = refl
none_mapped test f (x ∷ xs) h = or_from (test (f x)) (list_any test (map f xs)) (h x (inl refl)) (none_mapped test f xs (λ y i. h y (inr i)))

pub apart_both : {A : Type 0} (name : A → Text) (xs ys : List A) → AreApart name xs → AreApart name ys → ((x y : A) → IsIn x xs → IsIn y ys → same_name (name x) (name y) ≡ false) → AreApart name (xs ++ ys)
apart_both name [] ys h k other = k
apart_both {A} name (x ∷ xs) ys h k other = (λ z i. by z (in_either xs ys z i), apart_both name xs ys h.1 k (λ y z i j. other y z (inr i) j)) where
  by : (z : A) → IsIn z xs ⊎ IsIn z ys → same_name (name x) (name z) ≡ false
  by z (inl i) = h.0 z i
  by z (inr j) = other x z (inl refl) j

apart_with : {A : Type 0} (name : A → Text) (xs : List A) (x : A) → AreApart name xs → list_any (λ y. same_name (name y) (name x)) xs ≡ false → AreApart name (xs ++ x ∷ [])
apart_with {A} name xs x h none = apart_both name xs (x ∷ []) h (λ y i. absurd i, tt) (λ y z i j. by y z i j) where
  by : (y z : A) → IsIn y xs → IsIn z (x ∷ []) → same_name (name y) (name z) ≡ false
  by y z i (inl is) = ap (λ w. same_name (name y) (name w)) (sym is) ∙ none_of (λ w. same_name (name w) (name x)) xs y none i
  by y z i (inr j) = absurd j

pub apart_removed : {A B : Type 0} (name : A → Text) (other : B → Text) (bs : List B) (xs : List A) → AreApart name xs → AreApart name (removed name other bs xs)
unfolding removed
apart_removed name other [] xs h = h
apart_removed name other (b ∷ bs) xs h = apart_removed name other bs (filter (λ x. not (same_name (name x) (other b))) xs) (apart_filtered name (λ x. not (same_name (name x) (other b))) xs h)

-- a list is shorter without one of its elements
shorter : {A : Type 0} (f : A → Bool) (xs : List A) (x : A) → IsIn x xs → f x ≡ false → suc (length (filter f xs)) ≤ length xs
shorter f [] x i e = absurd i
shorter f (y ∷ ys) x (inl is) e = subst (λ l. suc (length l) ≤ suc (length ys)) (sym (cond-false (f y) (y ∷ filter f ys) (filter f ys) (ap f is ∙ e))) (omega (arith, length_filtered f ys))
shorter f (y ∷ ys) x (inr i) e = by (f y) (shorter f ys x i e) where
  by : (b : Bool) → suc (length (filter f ys)) ≤ length ys → suc (length (cond b (y ∷ filter f ys) (filter f ys))) ≤ suc (length ys)
  by true h = omega arith
  by false h = omega arith

-- what is all in a list and has names apart is no more than the list
pub no_more : {A : Type 0} (name : A → Text) (xs ys : List A) → AreApart name xs → ((x : A) → IsIn x xs → IsIn x ys) → length xs ≤ length ys
no_more name [] ys apart within = omega arith
no_more name (x ∷ xs) ys apart within =
    let rest : length xs ≤ length (filter (λ y. not (same_name (name x) (name y))) ys) =
    no_more name xs (filter (λ y. not (same_name (name x) (name y))) ys) apart.1 (λ y i. in_filter (λ z. not (same_name (name x) (name z))) ys y (within y (inr i)) (not_from_false (same_name (name x) (name y)) (apart.0 y i))) in
    let one : suc (length (filter (λ y. not (same_name (name x) (name y))) ys)) ≤ length ys =
    shorter (λ y. not (same_name (name x) (name y))) ys x (within x (inl refl)) (not_from_true (same_name (name x) (name x)) (same_itself (name x))) in
    omega arith

-- Columns that take the place of those of their names.

pub has_mapped : (f : Column → Column) (columns : List Column) (n : Text) → ((c : Column) → (f c).name ≡ c.name) → has_column (map f columns) n ≡ has_column columns n
has_mapped f [] n named = refl
has_mapped f (c ∷ cs) n named = ap (λ m. same_name m n || has_column (map f cs) n) (named c) ∙ ap (λ b. same_name c.name n || b) (has_mapped f cs n named)

pub apart_mapped : (f : Column → Column) (columns : List Column) → ((c : Column) → (f c).name ≡ c.name) → AreApart column_name columns → AreApart column_name (map f columns)
apart_mapped f [] named apart = tt
apart_mapped f (c ∷ cs) named apart = (other, apart_mapped f cs named apart.1) where
  other : (d : Column) → IsIn d (map f cs) → same_name (f c).name d.name ≡ false
  other d i =
      let from = from_map f cs d i in
      ap (λ m. same_name m d.name) (named c) ∙ ap (same_name c.name) (ap column_name (sym from.2) ∙ named from.0) ∙ apart.0 from.0 from.1

-- another column in the place of one of its name
abbrev in_place : Column → Column → Column
in_place m c = cond (same_name c.name m.name) m c

place_named : (m c : Column) → (in_place m c).name ≡ c.name
place_named m c = by (same_name c.name m.name) refl where
  by : (b : Bool) → same_name c.name m.name ≡ b → (cond b m c).name ≡ c.name
  by true same = sym (same_is_equal c.name m.name same)
  by false other = refl

place_either : (m c : Column) → (in_place m c ≡ m) ⊎ (in_place m c ≡ c)
place_either m c = by (same_name c.name m.name) where
  by : (b : Bool) → (cond b m c ≡ m) ⊎ (cond b m c ≡ c)
  by true = inl refl
  by false = inr refl

-- a column of another name stays
pub at_replaced : (m : Column) (columns : List Column) (n : Text) → same_name m.name n ≡ false → column_at (replaced m columns) n ≡ column_at columns n
at_replaced m [] n other = refl
at_replaced m (c ∷ cs) n other = by (same_name c.name m.name) refl (at_replaced m cs n other) where
  by : (b : Bool) → same_name c.name m.name ≡ b → column_at (replaced m cs) n ≡ column_at cs n
      → cond (same_name (cond b m c).name n) (Some (cond b m c)) (column_at (replaced m cs) n) ≡ cond (same_name c.name n) (Some c) (column_at cs n)
  by true same rest =
      cond-false (same_name m.name n) (Some m) (column_at (replaced m cs) n) other ∙ rest
      ∙ sym (cond-false (same_name c.name n) (Some c) (column_at cs n) (ap (λ k. same_name k n) (same_is_equal c.name m.name same) ∙ other))
  by false told rest = ap (cond (same_name c.name n) (Some c)) rest

pub moved_named : (ms : List Column) (c : Column) → (moved_to ms c).name ≡ c.name
unfolding moved_to
moved_named [] c = refl
moved_named (m ∷ ms) c = moved_named ms (cond (same_name c.name m.name) m c) ∙ place_named m c

-- Layouts between two schemas.

-- columns between those of two schemas: each is one of them, and what both have under a name is there
pub record AreBetween (old new : Layout) (columns : List Column) : Type 0 where
  pub from : (c : Column) → IsIn c columns → IsIn c old.columns ⊎ IsIn c new.columns
  pub apart : AreApart column_name columns
  pub shared : (n : Text) → has_column old.columns n ≡ true → has_column new.columns n ≡ true → has_column columns n ≡ true

-- keys of a schema whose columns are there
pub record AreKeysOf (s : Layout) (columns : List Column) (uniques : List UniqueKey) : Type 0 where
  pub from : (k : UniqueKey) → IsIn k uniques → IsIn k s.uniques
  pub apart : AreApart unique_name uniques
  pub stand : (k : UniqueKey) → IsIn k uniques → all_columns columns k.columns ≡ true

-- keys that two schemas have
pub record AreShared (old new : Layout) (uniques : List UniqueKey) : Type 0 where
  pub from_old : (k : UniqueKey) → IsIn k uniques → IsIn k old.uniques
  pub from_new : (k : UniqueKey) → IsIn k uniques → IsIn k new.uniques
  pub apart : AreApart unique_name uniques

pub keys_filtered : (s : Layout) (columns : List Column) (f : UniqueKey → Bool) (uniques : List UniqueKey) → AreKeysOf s columns uniques → AreKeysOf s columns (filter f uniques)
keys_filtered s columns f uniques keys = record {
  from = λ k i. keys.from k (from_filter f uniques k i).0;
  apart = apart_filtered unique_name f uniques keys.apart;
  stand = λ k i. keys.stand k (from_filter f uniques k i).0;
}

pub keys_with : (s : Layout) (columns : List Column) (uniques : List UniqueKey) (k : UniqueKey) → AreKeysOf s columns uniques → IsIn k s.uniques → all_columns columns k.columns ≡ true → has_key uniques k.name ≡ false
    → AreKeysOf s columns (uniques ++ k ∷ [])
keys_with s columns uniques k keys there stands free = record {
  from = λ j i. from j (in_either uniques (k ∷ []) j i);
  apart = apart_with unique_name uniques k keys.apart free;
  stand = λ j i. stand j (in_either uniques (k ∷ []) j i);
} where
  from : (j : UniqueKey) → IsIn j uniques ⊎ IsIn j (k ∷ []) → IsIn j s.uniques
  from j (inl i) = keys.from j i
  from j (inr (inl is)) = subst (λ x. IsIn x s.uniques) is there
  from j (inr (inr i)) = absurd i

  stand : (j : UniqueKey) → IsIn j uniques ⊎ IsIn j (k ∷ []) → all_columns columns j.columns ≡ true
  stand j (inl i) = keys.stand j i
  stand j (inr (inl is)) = ap (λ (x : UniqueKey). all_columns columns x.columns) (sym is) ∙ stands
  stand j (inr (inr i)) = absurd i

pub columns_without : (old new : Layout) (columns : List Column) (name : Text) → AreBetween old new columns → has_column new.columns name ≡ false → AreBetween old new (without_column columns name)
columns_without old new columns name are lacks = record {
  from = λ c i. are.from c (from_filter (λ d. not (same_name d.name name)) columns c i).0;
  apart = apart_filtered column_name (λ d. not (same_name d.name name)) columns are.apart;
  shared = λ n here there.
      let c = any_from (λ d. same_name d.name n) columns (are.shared n here there) in
      any_of (λ d. same_name d.name n) (without_column columns name) c.0
      (in_filter (λ d. not (same_name d.name name)) columns c.0 c.1
      (not_from_false (same_name c.0.name name)
      (not_same c.0.name name (λ e. both_ways (has_column new.columns name) lacks (ap (has_column new.columns) (sym e ∙ same_is_equal c.0.name n c.2) ∙ there)))))
      c.2;
}

pub columns_replaced : (old new : Layout) (columns : List Column) (m : Column) → AreBetween old new columns → IsIn m new.columns → AreBetween old new (replaced m columns)
columns_replaced old new columns m are there = record {
  from = λ c i. let d = from_map (in_place m) columns c i in by c d.0 d.1 d.2 (place_either m d.0);
  apart = apart_mapped (in_place m) columns (place_named m) are.apart;
  shared = λ n here also. has_mapped (in_place m) columns n (place_named m) ∙ are.shared n here also;
} where
  by : (c d : Column) → IsIn d columns → in_place m d ≡ c → (in_place m d ≡ m) ⊎ (in_place m d ≡ d) → IsIn c old.columns ⊎ IsIn c new.columns
  by c d i is (inl new_one) = inr (subst (λ x. IsIn x new.columns) (sym new_one ∙ is) there)
  by c d i is (inr old_one) = subst (λ x. IsIn x old.columns ⊎ IsIn x new.columns) (sym old_one ∙ is) (are.from d i)

pub columns_with : (old new : Layout) (columns : List Column) (c : Column) → AreBetween old new columns → IsIn c new.columns → has_column columns c.name ≡ false → AreBetween old new (columns ++ c ∷ [])
columns_with old new columns c are there free = record {
  from = λ d i. from d (in_either columns (c ∷ []) d i);
  apart = apart_with column_name columns c are.apart free;
  shared = λ n here also. list_any-append (λ d. same_name d.name n) columns (c ∷ []) ∙ or_left (has_column columns n) (has_column (c ∷ []) n) (are.shared n here also);
} where
  from : (d : Column) → IsIn d columns ⊎ IsIn d (c ∷ []) → IsIn d old.columns ⊎ IsIn d new.columns
  from d (inl i) = are.from d i
  from d (inr (inl is)) = inr (subst (λ x. IsIn x new.columns) is there)
  from d (inr (inr i)) = absurd i

-- no column of the names is one that isn't there
pub not_among : (columns : List Column) (names : List Text) (name : Text) → all_columns columns names ≡ true → has_column columns name ≡ false → is_among names name ≡ false
not_among columns names name all lacks =
    none_from (λ n. same_name n name) names (λ n i. not_same n name (λ e. both_ways (has_column columns name) lacks (ap (has_column columns) (sym e) ∙ all_of (λ m. has_column columns m) names n all i)))
