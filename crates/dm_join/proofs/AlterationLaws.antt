-- Laws of the changes that lead from one schema to another: there are none exactly where the two are equal.
use Rattle.std.proofs.Common.{◌≡◌, Bool, true, false, List, [], ◌∷◌, ◌++◌, map, Some, refl, sym, ap, subst, ◌∙◌, inl, inr}
use Rattle.std.specs.Prelude.{◌⊎◌, not, ◌&&◌, IsTrue}
use Rattle.std.specs.Option.{option_map_or}
use Rattle.std.specs.List.{list_any, filter}
use Rattle.std.specs.Cmp.Lexicographic.{pointwise}
use Rattle.std.proofs.lemmas.Bool.{not-false, not_from_true, cases_Bool, cond-false, and_parts}
use Rattle.dm_schema.specs.declared.column.Column.{Column}
use Rattle.dm_schema.specs.declared.column.UniqueKey.{UniqueKey}
use Rattle.dm_schema.specs.declared.change.Change.TheVariants as change
use Rattle.dm_schema.specs.declared.change.Spot.TheVariants as spot
use Rattle.dm_schema.specs.Layout.{Layout}
use Rattle.dm_schema.specs.Names.{Text, same_name, column_at, has_column}
use Rattle.dm_schema.specs.NameOrder.{in_order_of, columns_in_order, uniques_in_order}
use Rattle.dm_schema.specs.Schemas.{is_formed, same_column, same_unique, schema_equal}
use Rattle.dm_join.specs.Alteration.{keys_only_in, columns_only_in, columns_moved, alteration}
use Rattle.dm_join.proofs.Lists.{IsIn, any_of, any_from, in_filter}
use Rattle.dm_join.proofs.NameLemmas.{same_is_equal}
use Rattle.dm_join.proofs.Orders.{column_name, found_column, some_found, finds_each, in_ordered, from_ordered}
use Rattle.dm_join.proofs.Exact.{column_exact, unique_exact}
use Rattle.dm_join.proofs.JoinFormed.{unique_name}
use Rattle.dm_join.proofs.AtMostLaws.{columns_apart, has_unique, has_name, same_unique_itself, same_column_itself, equal_from}

none_kept : {A : Type 0} (f : A → Bool) (xs : List A) → ((x : A) → IsIn x xs → f x ≡ false) → filter f xs ≡ []
none_kept f [] h = refl
none_kept f (x ∷ xs) h = cond-false (f x) (x ∷ filter f xs) (filter f xs) (h x (inl refl)) ∙ none_kept f xs (λ y i. h y (inr i))

-- whether the old schema has the column otherwise
abbrev pub is_moved : Layout → Column → Bool
is_moved old c = option_map_or (λ before. not (same_column before c)) (column_at old.columns c.name) false

-- schemas with the same columns and the same unique keys
record Alike (a b : Layout) : Type 0 where
  columns : (c : Column) → IsIn c a.columns → IsIn c b.columns
  keys : (k : UniqueKey) → IsIn k a.uniques → IsIn k b.uniques

no_own_keys : (a b : Layout) → Alike a b → keys_only_in a b ≡ []
no_own_keys a b alike =
    ap (in_order_of unique_name)
    (none_kept (λ k. not (list_any (same_unique k) b.uniques)) a.uniques (λ k i. not_from_true (list_any (same_unique k) b.uniques) (any_of (same_unique k) b.uniques k (alike.keys k i) (same_unique_itself k))))

no_own_columns : (a b : Layout) → Alike a b → columns_only_in a b ≡ []
no_own_columns a b alike =
    ap (in_order_of column_name)
    (none_kept (λ c. not (has_column b.columns c.name)) a.columns (λ c i. not_from_true (has_column b.columns c.name) (has_name b.columns c (alike.columns c i))))

none_moved : (a b : Layout) → is_formed a ≡ true → Alike b a → columns_moved a b ≡ []
none_moved a b formed alike =
    ap (in_order_of column_name)
    (none_kept (is_moved a) b.columns (λ c i.
    ap (λ o. option_map_or (λ before. not (same_column before c)) o false) (finds_each a.columns c (columns_apart a formed) (alike.columns c i))
    ∙ not_from_true (same_column c c) (same_column_itself c)))

all_empty : (dropped_keys : List UniqueKey) (dropped moved added : List Column) (added_keys : List UniqueKey) → dropped_keys ≡ [] → dropped ≡ [] → moved ≡ [] → added ≡ [] → added_keys ≡ []
    → map (λ k. change.DropKey k.name) dropped_keys ++ map (λ c. change.Drop c.name) dropped ++ map (λ c. change.Modify c spot.Keep c.nullable) moved ++ map (λ c. change.Add c spot.Last) added ++ map (λ k. change.AddUnique k true) added_keys ≡ []
all_empty ks cs ms ds js k c m d j = rw (k, c, m, d, j) refl

none_between : (a b : Layout) → is_formed a ≡ true → Alike a b → Alike b a → alteration a b ≡ []
unfolding alteration
none_between a b formed to back =
    all_empty (keys_only_in a b) (columns_only_in a b) (columns_moved a b) (columns_only_in b a) (keys_only_in b a)
    (no_own_keys a b to) (no_own_columns a b to) (none_moved a b formed back) (no_own_columns b a back) (no_own_keys b a back)

same_elements : {A : Type 0} (same : A → A → Bool) → ((x y : A) → same x y ≡ true → x ≡ y) → (xs ys : List A) → pointwise same xs ys ≡ true → xs ≡ ys
same_elements same exact [] [] e = refl
same_elements same exact [] (y ∷ ys) e = absurd (cc e)
same_elements same exact (x ∷ xs) [] e = absurd (cc e)
same_elements same exact (x ∷ xs) (y ∷ ys) e =
    let parts = and_parts (same x y) (pointwise same xs ys) e in
    let first : x ≡ y = exact x y parts.0 in
    let rest : xs ≡ ys = same_elements same exact xs ys parts.1 in
    ap (λ z. z ∷ xs) first ∙ ap (λ l. y ∷ l) rest

alike_in_order : {A : Type 0} (name : A → Text) (xs ys : List A) → in_order_of name xs ≡ in_order_of name ys → (x : A) → IsIn x xs → IsIn x ys
alike_in_order name xs ys same x i = from_ordered name ys x (subst (IsIn x) same (in_ordered name xs x i))

-- between equal schemas there are no changes
pub alteration_of_equals : (a b : Layout) → IsTrue (is_formed a) → schema_equal a b ≡ true → alteration a b ≡ []
alteration_of_equals a b formed e = none_between a b formed
    (record { columns = alike_in_order column_name a.columns b.columns columns; keys = alike_in_order unique_name a.uniques b.uniques keys })
    (record { columns = alike_in_order column_name b.columns a.columns (sym columns); keys = alike_in_order unique_name b.uniques a.uniques (sym keys) }) where
      parts : ((pointwise same_column (columns_in_order a.columns) (columns_in_order b.columns) && pointwise same_name a.primary b.primary) ≡ true)
          × (pointwise same_unique (uniques_in_order a.uniques) (uniques_in_order b.uniques) ≡ true)
      parts = and_parts (pointwise same_column (columns_in_order a.columns) (columns_in_order b.columns) && pointwise same_name a.primary b.primary) (pointwise same_unique (uniques_in_order a.uniques) (uniques_in_order b.uniques)) e

      columns : columns_in_order a.columns ≡ columns_in_order b.columns
      columns = same_elements same_column column_exact (columns_in_order a.columns) (columns_in_order b.columns) (and_parts (pointwise same_column (columns_in_order a.columns) (columns_in_order b.columns)) (pointwise same_name a.primary b.primary) parts.0).0

      keys : uniques_in_order a.uniques ≡ uniques_in_order b.uniques
      keys = same_elements same_unique unique_exact (uniques_in_order a.uniques) (uniques_in_order b.uniques) parts.1

both_empty : {A : Type 0} (xs ys : List A) → xs ++ ys ≡ [] → (xs ≡ []) × (ys ≡ [])
both_empty [] ys e = (refl, e)
both_empty (x ∷ xs) ys e = absurd (cc e)

map_empty : {A B : Type 0} (f : A → B) (xs : List A) → map f xs ≡ [] → xs ≡ []
map_empty f [] e = refl
map_empty f (x ∷ xs) e = absurd (cc e)

none_passes : {A : Type 0} (name : A → Text) (f : A → Bool) (xs : List A) → in_order_of name (filter f xs) ≡ [] → (x : A) → IsIn x xs → f x ≡ false
none_passes name f xs e x i = by (cases_Bool (f x)) where
  by : (f x ≡ true) ⊎ (f x ≡ false) → f x ≡ false
  by (inl passes) = absurd (subst (IsIn x) e (in_ordered name (filter f xs) x (in_filter f xs x i passes)))
  by (inr fails) = fails

record NoChanges (a b : Layout) : Type 0 where
  keys_here : keys_only_in a b ≡ []
  columns_here : columns_only_in a b ≡ []
  moved : columns_moved a b ≡ []
  columns_there : columns_only_in b a ≡ []
  keys_there : keys_only_in b a ≡ []

no_changes : (a b : Layout) → alteration a b ≡ [] → NoChanges a b
unfolding alteration
no_changes a b e =
    let one = both_empty (map (λ k. change.DropKey k.name) (keys_only_in a b) ++ map (λ c. change.Drop c.name) (columns_only_in a b) ++ map (λ c. change.Modify c spot.Keep c.nullable) (columns_moved a b) ++ map (λ c. change.Add c spot.Last) (columns_only_in b a)) (map (λ k. change.AddUnique k true) (keys_only_in b a)) e in
    let two = both_empty (map (λ k. change.DropKey k.name) (keys_only_in a b) ++ map (λ c. change.Drop c.name) (columns_only_in a b) ++ map (λ c. change.Modify c spot.Keep c.nullable) (columns_moved a b)) (map (λ c. change.Add c spot.Last) (columns_only_in b a)) one.0 in
    let three = both_empty (map (λ k. change.DropKey k.name) (keys_only_in a b) ++ map (λ c. change.Drop c.name) (columns_only_in a b)) (map (λ c. change.Modify c spot.Keep c.nullable) (columns_moved a b)) two.0 in
    let four = both_empty (map (λ k. change.DropKey k.name) (keys_only_in a b)) (map (λ c. change.Drop c.name) (columns_only_in a b)) three.0 in
    record {
      keys_here = map_empty (λ k. change.DropKey k.name) (keys_only_in a b) four.0;
      columns_here = map_empty (λ c. change.Drop c.name) (columns_only_in a b) four.1;
      moved = map_empty (λ c. change.Modify c spot.Keep c.nullable) (columns_moved a b) three.1;
      columns_there = map_empty (λ c. change.Add c spot.Last) (columns_only_in b a) two.1;
      keys_there = map_empty (λ k. change.AddUnique k true) (keys_only_in b a) one.1;
    }

keys_shared : (a b : Layout) → keys_only_in a b ≡ [] → (k : UniqueKey) → IsIn k a.uniques → IsIn k b.uniques
keys_shared a b e k i = has_unique b.uniques k (not-false (list_any (same_unique k) b.uniques) (none_passes unique_name (λ j. not (list_any (same_unique j) b.uniques)) a.uniques e k i))

names_shared : (a b : Layout) → columns_only_in a b ≡ [] → (c : Column) → IsIn c a.columns → has_column b.columns c.name ≡ true
names_shared a b e c i = not-false (has_column b.columns c.name) (none_passes column_name (λ d. not (has_column b.columns d.name)) a.columns e c i)

-- a column that isn't otherwise is the one that was there
not_moved : (a b : Layout) (c d : Column) → columns_moved a b ≡ [] → IsIn d b.columns → column_at a.columns d.name ≡ Some c → c ≡ d
not_moved a b c d e i at =
    column_exact c d
    (not-false (same_column c d)
    (sym (ap (λ o. option_map_or (λ before. not (same_column before d)) o false) at) ∙ none_passes column_name (is_moved a) b.columns e d i))

-- where there are no changes, the schemas are equal
pub no_alteration : (a b : Layout) → IsTrue (is_formed a) → IsTrue (is_formed b) → a.primary ≡ b.primary → alteration a b ≡ [] → schema_equal a b ≡ true
no_alteration a b f g primary e = equal_from a b f g primary to back (keys_shared a b none.keys_here) (keys_shared b a none.keys_there) where
  none : NoChanges a b
  none = no_changes a b e

  to : (c : Column) → IsIn c a.columns → IsIn c b.columns
  to c i =
      let some = any_from (λ d. same_name d.name c.name) b.columns (names_shared a b none.columns_here c i) in
      let named = same_is_equal some.0.name c.name some.2 in
      let same = not_moved a b c some.0 none.moved some.1 (ap (column_at a.columns) named ∙ finds_each a.columns c (columns_apart a f) i) in
      subst (λ d. IsIn d b.columns) (sym same) some.1

  back : (c : Column) → IsIn c b.columns → IsIn c a.columns
  back c i =
      let some = any_from (λ d. same_name d.name c.name) a.columns (names_shared b a none.columns_there c i) in
      let found = some_found a.columns c.name some.0 some.1 (same_is_equal some.0.name c.name some.2) in
      let same = not_moved a b found.0 c none.moved i found.1 in
      subst (λ d. IsIn d a.columns) same (found_column a.columns c.name found.0 found.1).0
