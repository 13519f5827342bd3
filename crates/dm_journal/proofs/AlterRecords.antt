-- What the record of an alteration says: its changes are written, there is one at least where the schemas differ, and they lead
-- to the schema that was asked for.
use Rattle.std.proofs.Common.{◌≡◌, true, false, List, [], ◌∷◌, ◌++◌, length, map, Some, None, Ok, refl, ap, subst, ◌∙◌}
use Rattle.std.specs.Prelude.{◌&&◌, ◌||◌, not, is_none}
use Rattle.std.specs.Bool.{Decides, beq}
use Rattle.std.specs.Cmp.{booleans_Decides}
use Rattle.std.specs.Cmp.Lexicographic.{pointwise}
use Rattle.std.specs.List.{list_all}
use Rattle.std.proofs.lemmas.Bool.{and_from, and_parts, both_ways, not-false, not-true, not_from_false, or_parts}
use Rattle.std.proofs.lemmas.List.Folds.{list_all-append, list_all-map}
use Rattle.std.proofs.lemmas.Slice.Eq.{slice_eq-Decides}
use Rattle.std.proofs.Math.Dec.{eqb-suc-zero}
use Rattle.dm_schema.specs.declared.change.Change.{Change}
use Rattle.dm_schema.specs.declared.change.Change.TheVariants as change
use Rattle.dm_schema.specs.declared.change.Spot.TheVariants as spot
use Rattle.dm_schema.specs.declared.column.Column.{Column}
use Rattle.dm_schema.specs.declared.column.UniqueKey.{UniqueKey}
use Rattle.dm_schema.specs.Effect.{joined_effect}
use Rattle.dm_schema.specs.Fill.{fill}
use Rattle.dm_schema.specs.KindOrder.{comparable}
use Rattle.dm_schema.specs.Kinds.{is_column, is_key}
use Rattle.dm_schema.specs.Layout.{Layout}
use Rattle.dm_schema.specs.NameOrder.{columns_in_order, uniques_in_order}
use Rattle.dm_schema.specs.Names.{column_at, same_name}
use Rattle.dm_schema.specs.Schemas.{in_order, is_formed, is_unfit_default, same_column, same_unique, schema_equal}
use Rattle.dm_join.specs.Alteration.{alteration, columns_moved, columns_only_in, keys_only_in}
use Rattle.dm_join.proofs.AlterationLaws.{no_alteration}
use Rattle.dm_join.proofs.AtMostLaws.{same_column_itself, same_unique_itself}
use Rattle.dm_join.proofs.EffectLaws.{column_only, key_drops, key_only, moved_only, to_adds, to_drops, to_modifies}
use Rattle.dm_join.proofs.EffectThere.{CanBecome, alteration_has_effect}
use Rattle.dm_join.proofs.Exact.{column_exact, names_exact, unique_exact}
use Rattle.dm_join.proofs.Formed.{formed_parts}
use Rattle.dm_join.proofs.Lists.{IsIn, all_from, all_of, none_of}
use Rattle.dm_join.proofs.Orders.{column_name, in_ordered}
use Rattle.dm_table.specs.Alterations.{altered, has_unfit, is_unfit_column}
use Rattle.dm_table.specs.Contents.{RowMap, TableContent}
use Rattle.dm_table.proofs.Followed.{all_fit, same_primary}
use Rattle.dm_stmt.specs.Records.{is_empty, is_whole_column, is_written_change}
use Rattle.dm_journal.specs.Contents.{changed_by, no_default}

-- Changes that are written.

-- a schema's columns have defaults that fit them
is_whole : (layout : Layout) (c : Column) → is_formed layout ≡ true → IsIn c layout.columns → is_whole_column c ≡ true
is_whole layout c formed i =
    let parts = formed_parts layout formed in
    and_from (is_column c) (not (is_unfit_default c)) (all_of is_column layout.columns c parts.columns i)
    (not_from_false (is_unfit_default c) (none_of is_unfit_default layout.columns c parts.defaults_fit i))

-- a column that is modified to says its own NULL
modify_written : (c : Column) → is_whole_column c ≡ true → is_written_change (change.Modify c spot.Keep c.nullable) ≡ true
modify_written c whole = and_from (beq c.nullable c.nullable) (is_whole_column c) ((booleans_Decides c.nullable c.nullable).1 refl) whole

-- one group of changes
group_written : {A : Type 0} (f : A → Change) (xs : List A) → ((x : A) → IsIn x xs → is_written_change (f x) ≡ true) → list_all is_written_change (map f xs) ≡ true
group_written f xs h = list_all-map is_written_change f xs ∙ all_from (λ x. is_written_change (f x)) xs h

-- one group behind others
both_written : (xs ys : List Change) → list_all is_written_change xs ≡ true → list_all is_written_change ys ≡ true → list_all is_written_change (xs ++ ys) ≡ true
both_written xs ys h k = list_all-append is_written_change xs ys ∙ and_from (list_all is_written_change xs) (list_all is_written_change ys) h k

-- the changes of an alteration are those that a record writes
pub changes_are_written : (old new : Layout) → is_formed old ≡ true → is_formed new ≡ true → list_all is_written_change (alteration old new) ≡ true
unfolding alteration
changes_are_written old new old_formed new_formed =
    both_written (to_adds old new) (map (λ k. change.AddUnique k true) (keys_only_in new old))
    (both_written (to_modifies old new) (map (λ c. change.Add c spot.Last) (columns_only_in new old))
    (both_written (to_drops old new) (map (λ c. change.Modify c spot.Keep c.nullable) (columns_moved old new))
    (both_written (key_drops old new) (map (λ c. change.Drop c.name) (columns_only_in old new))
    (group_written (λ k. change.DropKey k.name) (keys_only_in old new) (λ k i. refl))
    (group_written (λ c. change.Drop c.name) (columns_only_in old new) (λ c i. refl)))
    (group_written (λ c. change.Modify c spot.Keep c.nullable) (columns_moved old new) (λ c i. modify_written c (is_whole new c new_formed (moved_only old new c i).0))))
    (group_written (λ c. change.Add c spot.Last) (columns_only_in new old) (λ c i. is_whole new c new_formed (column_only new old c i).0)))
    (group_written (λ k. change.AddUnique k true) (keys_only_in new old) (λ k i. all_of is_key new.uniques k (formed_parts new new_formed).keys (key_only new old k i).0))

-- Schemas that differ.

-- a list that isn't the empty one
not_empty : {A : Type 0} (xs : List A) → (xs ≡ [] → ⊥) → is_empty xs ≡ false
not_empty [] h = absurd (h refl)
not_empty (x ∷ xs) h = eqb-suc-zero (length xs)

-- a schema that isn't equal takes a change at least
pub some_change : (old new : Layout) → is_formed old ≡ true → is_formed new ≡ true → old.primary ≡ new.primary → schema_equal old new ≡ false → is_empty (alteration old new) ≡ false
some_change old new old_formed new_formed primary differ =
    not_empty (alteration old new) (λ none. both_ways (schema_equal old new) differ (no_alteration old new old_formed new_formed primary none))

-- Schemas that are equal.

-- columns that are the same are equal, and the other way round
column_tells : (a b : Column) → Decides (same_column a b) (a ≡ b)
column_tells a b = (column_exact a b, λ is. subst (λ c. same_column a c ≡ true) is (same_column_itself a))

-- so are keys
unique_tells : (a b : UniqueKey) → Decides (same_unique a b) (a ≡ b)
unique_tells a b = (unique_exact a b, λ is. subst (λ k. same_unique a k ≡ true) is (same_unique_itself a))

-- equal schemas in order are one
pub equal_is_one : (a b : Layout) → schema_equal a b ≡ true → in_order a ≡ in_order b
equal_is_one a b same =
    let columns_same = pointwise same_column (columns_in_order a.columns) (columns_in_order b.columns) in
    let keys_same = pointwise same_unique (uniques_in_order a.uniques) (uniques_in_order b.uniques) in
    let parts = and_parts (columns_same && pointwise same_name a.primary b.primary) keys_same same in
    let before = and_parts columns_same (pointwise same_name a.primary b.primary) parts.0 in
    let columns = (slice_eq-Decides {E = same_column} column_tells (columns_in_order a.columns) (columns_in_order b.columns) columns_same refl).0 before.0 in
    let keys = (slice_eq-Decides {E = same_unique} unique_tells (uniques_in_order a.uniques) (uniques_in_order b.uniques) keys_same refl).0 parts.1 in
    ap (λ cs. record { columns = cs; primary = a.primary; uniques = uniques_in_order a.uniques }) columns
    ∙ ap (λ names. record { columns = columns_in_order b.columns; primary = names; uniques = uniques_in_order a.uniques }) (names_exact a.primary b.primary before.1)
    ∙ ap (λ ks. record { columns = columns_in_order b.columns; primary = b.primary; uniques = ks }) keys

-- Alterations that aren't refused.

-- an alteration that isn't refused keeps the primary key
pub altered_primary : (table after : TableContent) (new : Layout) → altered table (in_order new) ≡ Ok after → table.layout.primary ≡ new.primary
altered_primary table after new goes = names_exact table.layout.primary new.primary (same_primary table (in_order new) after goes)

-- a column that stays has a comparable kind
stays_comparable : (before : List Column) (rows : RowMap) (c old : Column) → column_at before c.name ≡ Some old → not (is_unfit_column before rows c) ≡ true → comparable old.kind c.kind ≡ true
stays_comparable before rows c old there fits =
    let passes = not-true (not (comparable old.kind c.kind) || has_unfit before rows c) (rw there at fits) in
    not-false (comparable old.kind c.kind) (or_parts (not (comparable old.kind c.kind)) (has_unfit before rows c) passes).0

-- a new column has a fill
new_is_filled : (before : List Column) (rows : RowMap) (c : Column) → column_at before c.name ≡ None → not (is_unfit_column before rows c) ≡ true → is_none (fill c) ≡ false
new_is_filled before rows c nowhere fits = not-true (is_none (fill c)) (rw nowhere at fits)

-- where an alteration isn't refused, its changes can bring it about
can_become : (table after : TableContent) (new : Layout) → altered table (in_order new) ≡ Ok after → CanBecome table.layout new
can_become table after new goes = record {
  kept = λ c before i there. stays_comparable table.layout.columns table.rows c before there (fits c i);
  filled = λ c i nowhere. new_is_filled table.layout.columns table.rows c nowhere (fits c i);
} where
  fits : (c : Column) → IsIn c new.columns → not (is_unfit_column table.layout.columns table.rows c) ≡ true
  fits c i =
      all_of (λ d. not (is_unfit_column table.layout.columns table.rows d)) (columns_in_order new.columns) c (all_fit table (in_order new) after goes)
      (in_ordered column_name new.columns c i)

-- an effect is the schema that a record's changes make
made_by : (changes : List Change) (layout made : Layout) → joined_effect no_default layout changes ≡ Ok made → changed_by changes layout ≡ Some made
made_by changes layout made effect = rw effect refl

-- an alteration that isn't refused is written as changes that lead to its schema
pub alteration_leads : (table after : TableContent) (new : Layout) → is_formed table.layout ≡ true → is_formed new ≡ true → altered table (in_order new) ≡ Ok after
    → (made : Layout) × (changed_by (alteration table.layout new) table.layout ≡ Some made) × (in_order made ≡ in_order new)
alteration_leads table after new old_formed new_formed goes =
    let led = alteration_has_effect no_default table.layout new old_formed new_formed (altered_primary table after new goes) (can_become table after new goes) in
    (led.0, made_by (alteration table.layout new) table.layout led.0 led.1, equal_is_one led.0 new led.2)
