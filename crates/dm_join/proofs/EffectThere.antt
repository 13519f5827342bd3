-- The changes from one schema to another have an effect, wherever kinds that stay are comparable and what is new has a fill.
use Rattle.std.proofs.Common.{◌≡◌, ◌≤◌, Bool, true, false, List, [], ◌∷◌, ◌++◌, length, map, Option, Some, None, Ok, refl, sym, ap, subst, ◌∙◌, inl, inr, arith}
use Rattle.std.specs.Prelude.{◌⊎◌, ◌||◌, ◌&&◌, not, is_some, is_none, IsTrue}
use Rattle.std.specs.Option.{option_map_or}
use Rattle.std.specs.List.{list_any, filter}
use Rattle.std.proofs.lemmas.Bool.{false≢true, and_left, and_right, and_from, or_left, or_from, not_from_true, not_from_false, both_ways, leb-true, le-leb}
use Rattle.dm_schema.specs.declared.column.Column.{Column}
use Rattle.dm_schema.specs.declared.column.UniqueKey.{UniqueKey}
use Rattle.dm_schema.specs.declared.column.DefaultRule.{DefaultRule}
use Rattle.dm_schema.specs.declared.column.DefaultRule.TheVariants as default
use Rattle.dm_schema.specs.declared.change.Change.{Change}
use Rattle.dm_schema.specs.declared.change.Change.TheVariants as change
use Rattle.dm_schema.specs.declared.change.Spot.TheVariants as spot
use Rattle.dm_schema.specs.Layout.{Layout}
use Rattle.dm_schema.specs.Names.{Text, same_name, column_at, has_column}
use Rattle.dm_schema.specs.Fill.{fill, fill_by, fill_for_missing, missing_by}
use Rattle.dm_schema.specs.Kinds.{is_column, is_key}
use Rattle.dm_schema.specs.KindOrder.{kind_at_most, comparable}
use Rattle.dm_schema.specs.Schemas.{all_columns, is_formed, is_nullable_column, is_unfit_default, names_repeat, same_column, same_unique, schema_equal}
use Rattle.dm_schema.specs.Effect.{Reading, is_among, has_key, replaced, without_column, adds, drops, was_added, was_dropped, has_no_fill, differs_in_family, modified_column, joined_effect}
use Rattle.dm_join.specs.AtMost.{at_most}
use Rattle.dm_join.specs.Alteration.{keys_only_in, columns_only_in, columns_moved, alteration}
use Rattle.dm_join.proofs.Lists.{IsIn, all_of, all_from, any_of, any_from, none_of, none_from, in_filter, in_left}
use Rattle.dm_join.proofs.NameLemmas.{same_is_equal, same_from, same_back, not_same}
use Rattle.dm_join.proofs.Orders.{AreApart, column_name, apart_from, apart_repeats, apart_filtered, apart_ordered, found_column, finds_each}
use Rattle.dm_join.proofs.Formed.{Formed, formed_parts}
use Rattle.dm_join.proofs.JoinFormed.{unique_name}
use Rattle.dm_join.proofs.AtMostLaws.{AtMost, at_most_parts, columns_apart, has_name, same_unique_itself}
use Rattle.dm_join.proofs.AlterationLaws.{is_moved}
use Rattle.dm_join.proofs.Laws.{has_found, lacks_unfound, unfound_lacks}
use Rattle.dm_join.proofs.EffectLaws.{after, from_removed, in_removed, moved_to, as_written, among_alike, one_of_name, key_only, column_only, moved_only, kept_columns, modified_columns, kept_keys, key_drops, to_drops, to_modifies, to_adds, after_to_key_drops, after_to_drops, after_to_modifies, after_to_adds, columns_to, columns_back, keys_to, effect_of_alteration}
use Rattle.dm_join.proofs.Passing.{Pass, all_steps, both_pass, none_both, none_with, none_mapped, apart_both, apart_removed, no_more, has_mapped, apart_mapped, at_replaced, moved_named, AreBetween, AreKeysOf, AreShared, keys_filtered, keys_with, columns_without, columns_replaced, columns_with, not_among}

-- What an alteration can bring about: a column that stays has a comparable kind, and one that is new has a fill.
pub record CanBecome (old new : Layout) : Type 0 where
  pub kept : (c before : Column) → IsIn c new.columns → column_at old.columns c.name ≡ Some before → comparable before.kind c.kind ≡ true
  pub filled : (c : Column) → IsIn c new.columns → column_at old.columns c.name ≡ None → is_none (fill c) ≡ false

-- nothing was added
abbrev NoneAdded : List Change → Type 0
NoneAdded before = (n : Text) → was_added before n ≡ false

-- a column that a change may modify to
record CanModify (new : Layout) (columns : List Column) (c : Column) : Type 0 where
  is_new : IsIn c new.columns
  before : Column
  at : column_at columns c.name ≡ Some before
  kinds : comparable before.kind c.kind ≡ true

-- a column that may be added behind changes
record CanAdd (new : Layout) (before : List Change) (columns : List Column) (c : Column) : Type 0 where
  is_new : IsIn c new.columns
  is_free : has_column columns c.name ≡ false
  not_dropped : was_dropped before c.name ≡ false
  has_fill : is_none (fill c) ≡ false

module _ (read : Reading) (old new : Layout) (old_formed : is_formed old ≡ true) (new_formed : is_formed new ≡ true) (primary : old.primary ≡ new.primary) (can : CanBecome old new) where
  of_old : Formed old
  of_old = formed_parts old old_formed

  of_new : Formed new
  of_new = formed_parts new new_formed

  old_keys_apart : AreApart unique_name old.uniques
  old_keys_apart = apart_from unique_name old.uniques of_old.keys_apart

  new_keys_apart : AreApart unique_name new.uniques
  new_keys_apart = apart_from unique_name new.uniques of_new.keys_apart

  -- a layout between the two
  abbrev between : List Column → List UniqueKey → Layout
  between columns uniques = record { columns = columns; primary = old.primary; uniques = uniques }

  of_either : (f : Column → Bool) (b : Bool) → ((c : Column) → IsIn c old.columns → f c ≡ b) → ((c : Column) → IsIn c new.columns → f c ≡ b) → (c : Column) → IsIn c old.columns ⊎ IsIn c new.columns → f c ≡ b
  of_either f b here there c (inl i) = here c i
  of_either f b here there c (inr i) = there c i

  new_primary_stands : all_columns new.columns old.primary ≡ true
  new_primary_stands = ap (all_columns new.columns) primary ∙ of_new.primary_stands

  not_nullable : (c : Column) → IsIn c new.columns → is_nullable_column old.primary c ≡ false
  not_nullable c i = ap (λ p. is_nullable_column p c) primary ∙ none_of (is_nullable_column new.primary) new.columns c of_new.not_nullable i

  formed_between : (s : Layout) (columns : List Column) (uniques : List UniqueKey) → Formed s → AreBetween old new columns → AreKeysOf s columns uniques → Formed (between columns uniques)
  formed_between s columns uniques of_s are keys =
      let most : length s.uniques ≤ 16 = leb-true (length s.uniques) 16 of_s.few_keys in
      let fewer : length uniques ≤ length s.uniques = no_more unique_name uniques s.uniques keys.apart keys.from in
      let at_most_16 : length uniques ≤ 16 = omega arith in
      record {
        columns = all_from is_column columns (λ c i. of_either is_column true (λ d j. all_of is_column old.columns d of_old.columns j) (λ d j. all_of is_column new.columns d of_new.columns j) c (are.from c i));
        keys = all_from is_key uniques (λ k i. all_of is_key s.uniques k of_s.keys (keys.from k i));
        few_keys = le-leb (length uniques) 16 at_most_16;
        columns_apart = apart_repeats column_name columns are.apart;
        keys_apart = apart_repeats unique_name uniques keys.apart;
        primary_apart = of_old.primary_apart;
        key_names_apart = none_from (λ k. names_repeat k.columns) uniques (λ k i. none_of (λ k. names_repeat k.columns) s.uniques k of_s.key_names_apart (keys.from k i));
        some_primary = of_old.some_primary;
        primary_stands = all_from (λ n. has_column columns n) old.primary (λ n i. are.shared n (all_of (λ m. has_column old.columns m) old.primary n of_old.primary_stands i) (all_of (λ m. has_column new.columns m) old.primary n new_primary_stands i));
        keys_stand = all_from (λ k. all_columns columns k.columns) uniques keys.stand;
        not_nullable = none_from (is_nullable_column old.primary) columns (λ c i. of_either (is_nullable_column old.primary) false (λ d j. none_of (is_nullable_column old.primary) old.columns d of_old.not_nullable j) not_nullable c (are.from c i));
        defaults_fit = none_from is_unfit_default columns (λ c i. of_either is_unfit_default false (λ d j. none_of is_unfit_default old.columns d of_old.defaults_fit j) (λ d j. none_of is_unfit_default new.columns d of_new.defaults_fit j) c (are.from c i));
      }

  old_key_stands : (k : UniqueKey) → IsIn k old.uniques → all_columns old.columns k.columns ≡ true
  old_key_stands k i = all_of (λ k. all_columns old.columns k.columns) old.uniques k of_old.keys_stand i

  new_key_stands : (k : UniqueKey) → IsIn k new.uniques → all_columns new.columns k.columns ≡ true
  new_key_stands k i = all_of (λ k. all_columns new.columns k.columns) new.uniques k of_new.keys_stand i

  -- the columns of a key that both have are there
  keys_of_both : (columns : List Column) (uniques : List UniqueKey) → AreBetween old new columns → AreShared old new uniques → AreKeysOf new columns uniques
  keys_of_both columns uniques are keys = record {
    from = keys.from_new;
    apart = keys.apart;
    stand = λ k i. all_from (λ n. has_column columns n) k.columns (λ n j.
        are.shared n (all_of (λ m. has_column old.columns m) k.columns n (old_key_stands k (keys.from_old k i)) j) (all_of (λ m. has_column new.columns m) k.columns n (new_key_stands k (keys.from_new k i)) j));
  }

  as_before : AreBetween old new old.columns
  as_before = record { from = λ c i. inl i; apart = columns_apart old old_formed; shared = λ n here there. here }

  key_drops_pass : (before : List Change) (ks uniques : List UniqueKey) → AreKeysOf old old.columns uniques → Pass read before (between old.columns uniques) (map (λ k. change.DropKey k.name) ks)
  key_drops_pass before [] uniques keys = tt
  key_drops_pass before (k ∷ ks) uniques keys =
      let rest : AreKeysOf old old.columns (filter (λ j. not (same_name j.name k.name)) uniques) = keys_filtered old old.columns (λ j. not (same_name j.name k.name)) uniques keys in (
        record { allowed = tt; formed = formed_between old old.columns (filter (λ j. not (same_name j.name k.name)) uniques) of_old as_before rest },
        key_drops_pass (before ++ change.DropKey k.name ∷ []) ks (filter (λ j. not (same_name j.name k.name)) uniques) rest,
      )

  drops_pass : (before : List Change) (cs columns : List Column) (uniques : List UniqueKey) → NoneAdded before → AreShared old new uniques → AreBetween old new columns → AreApart column_name cs
      → ((c : Column) → IsIn c cs → IsIn c columns × (has_column new.columns c.name ≡ false)) → Pass read before (between columns uniques) (map (λ c. change.Drop c.name) cs)
  drops_pass before [] columns uniques none keys are apart each = tt
  drops_pass before (c ∷ cs) columns uniques none keys are apart each = (
    record {
      allowed = (not_from_true (has_column columns c.name) (has_name columns c first.0), (in_no_key, (none c.name, tt)));
      formed = formed_between new rest uniques of_new rest_are (keys_of_both rest uniques rest_are keys);
    },
    drops_pass (before ++ change.Drop c.name ∷ []) cs rest uniques
        (λ n. none_with (λ d. adds d n) before (change.Drop c.name) (none n) refl) keys rest_are apart.1
        (λ d i. (in_filter (λ e. not (same_name e.name c.name)) columns d (each d (inr i)).0 (not_from_false (same_name d.name c.name) (same_back d.name c.name ∙ apart.0 d i)), (each d (inr i)).1)),
  ) where
    first : IsIn c columns × (has_column new.columns c.name ≡ false)
    first = each c (inl refl)

    rest : List Column
    rest = without_column columns c.name

    rest_are : AreBetween old new (without_column columns c.name)
    rest_are = columns_without old new columns c.name are first.1

    in_no_key : (is_among old.primary c.name || list_any (λ k. is_among k.columns c.name) uniques) ≡ false
    in_no_key =
        or_from (is_among old.primary c.name) (list_any (λ k. is_among k.columns c.name) uniques)
        (not_among new.columns old.primary c.name new_primary_stands first.1)
        (none_from (λ k. is_among k.columns c.name) uniques (λ k i. not_among new.columns k.columns c.name (new_key_stands k (keys.from_new k i)) first.1))

  modifies_pass : (before : List Change) (ms columns : List Column) (uniques : List UniqueKey) → NoneAdded before → AreShared old new uniques → AreBetween old new columns → AreApart column_name ms
      → ((m : Column) → IsIn m ms → CanModify new columns m) → Pass read before (between columns uniques) (map (λ c. change.Modify c spot.Keep c.nullable) ms)
  modifies_pass before [] columns uniques none keys are apart each = tt
  modifies_pass before (m ∷ ms) columns uniques none keys are apart each = (
    record {
      allowed = (unwritten, (not_from_true (has_column columns m.name && true) (and_from (has_column columns m.name) true (has_found columns m.name first.before first.at) refl), (one_family, (and_left (was_added before m.name) (has_no_fill (Some m)) (none m.name), tt))));
      formed = subst (λ c. Formed (between (replaced c columns) uniques)) (sym written) (formed_between new (replaced m columns) uniques of_new rest_are (keys_of_both (replaced m columns) uniques rest_are keys));
    },
    subst (λ c. Pass read (before ++ change.Modify m spot.Keep m.nullable ∷ []) (between (replaced c columns) uniques) (map (λ c. change.Modify c spot.Keep c.nullable) ms)) (sym written)
        (modifies_pass (before ++ change.Modify m spot.Keep m.nullable ∷ []) ms (replaced m columns) uniques
        (λ n. none_with (λ d. adds d n) before (change.Modify m spot.Keep m.nullable) (none n) refl) keys rest_are apart.1 (λ d i. still d i (each d (inr i)))),
  ) where
    first : CanModify new columns m
    first = each m (inl refl)

    written : modified_column (between columns uniques) m ≡ m
    written = as_written (between columns uniques) m (not_nullable m first.is_new)

    rest_are : AreBetween old new (replaced m columns)
    rest_are = columns_replaced old new columns m are first.is_new

    unwritten : (m.nullable && is_among old.primary m.name) ≡ false
    unwritten = ap (λ b. m.nullable && b) (sym (among_alike m.name old.primary)) ∙ not_nullable m first.is_new

    one_family : differs_in_family (column_at columns m.name) m ≡ false
    one_family = ap (λ o. differs_in_family o m) first.at ∙ not_from_true (comparable first.before.kind m.kind) first.kinds

    still : (d : Column) → IsIn d ms → CanModify new columns d → CanModify new (replaced m columns) d
    still d i can = record { is_new = can.is_new; before = can.before; at = at_replaced m columns d.name (apart.0 d i) ∙ can.at; kinds = can.kinds }

  adds_pass : (before : List Change) (ds columns : List Column) (uniques : List UniqueKey) → AreShared old new uniques → AreBetween old new columns → AreApart column_name ds
      → ((d : Column) → IsIn d ds → CanAdd new before columns d) → Pass read before (between columns uniques) (map (λ c. change.Add c spot.Last) ds)
  adds_pass before [] columns uniques keys are apart each = tt
  adds_pass before (d ∷ ds) columns uniques keys are apart each = (
    record {
      allowed = (refl, (first.is_free, (first.not_dropped, (first.has_fill, tt))));
      formed = formed_between new (columns ++ d ∷ []) uniques of_new rest_are (keys_of_both (columns ++ d ∷ []) uniques rest_are keys);
    },
    adds_pass (before ++ change.Add d spot.Last ∷ []) ds (columns ++ d ∷ []) uniques keys rest_are apart.1 (λ e i. still e i (each e (inr i))),
  ) where
    first : CanAdd new before columns d
    first = each d (inl refl)

    rest_are : AreBetween old new (columns ++ d ∷ [])
    rest_are = columns_with old new columns d are first.is_new first.is_free

    still : (e : Column) → IsIn e ds → CanAdd new before columns e → CanAdd new (before ++ change.Add d spot.Last ∷ []) (columns ++ d ∷ []) e
    still e i can = record {
      is_new = can.is_new;
      is_free = none_with (λ c. same_name c.name e.name) columns d can.is_free (apart.0 e i);
      not_dropped = none_with (λ c. drops c e.name) before (change.Add d spot.Last) can.not_dropped refl;
      has_fill = can.has_fill;
    }

  key_adds_pass : (before : List Change) (ks : List UniqueKey) (columns : List Column) (uniques : List UniqueKey) → AreBetween old new columns → ((n : Text) → has_column new.columns n ≡ true → has_column columns n ≡ true)
      → AreKeysOf new columns uniques → AreApart unique_name ks → ((k : UniqueKey) → IsIn k ks → IsIn k new.uniques × (has_key uniques k.name ≡ false)) → Pass read before (between columns uniques) (map (λ k. change.AddUnique k true) ks)
  key_adds_pass before [] columns uniques are all keys apart each = tt
  key_adds_pass before (k ∷ ks) columns uniques are all keys apart each = (
    record {
      allowed = (not_from_true (all_columns columns k.columns) stands, (and_right true (has_key uniques k.name) first.1, tt));
      formed = formed_between new columns (uniques ++ k ∷ []) of_new are rest_keys;
    },
    key_adds_pass (before ++ change.AddUnique k true ∷ []) ks columns (uniques ++ k ∷ []) are all rest_keys apart.1
        (λ j i. ((each j (inr i)).0, none_with (λ l. same_name l.name j.name) uniques k (each j (inr i)).1 (apart.0 j i))),
  ) where
    first : IsIn k new.uniques × (has_key uniques k.name ≡ false)
    first = each k (inl refl)

    stands : all_columns columns k.columns ≡ true
    stands = all_from (λ n. has_column columns n) k.columns (λ n i. all n (all_of (λ m. has_column new.columns m) k.columns n (new_key_stands k first.0) i))

    rest_keys : AreKeysOf new columns (uniques ++ k ∷ [])
    rest_keys = keys_with new columns uniques k keys first.0 stands first.1

  keys_shared : AreShared old new (kept_keys old new)
  keys_shared = record {
    from_old = λ k i. (from_removed unique_name unique_name (keys_only_in old new) old.uniques k i).0;
    from_new = λ k i. keys_to read old new old_formed new_formed primary k (in_left (kept_keys old new) (keys_only_in new old) k i);
    apart = apart_removed unique_name unique_name (keys_only_in old new) old.uniques old_keys_apart;
  }

  from_kept : (c : Column) → IsIn c (kept_columns old new) → IsIn c old.columns
  from_kept c i = (from_removed column_name column_name (columns_only_in old new) old.columns c i).0

  -- a column whose name the new schema has stays
  stays : (c : Column) → IsIn c old.columns → has_column new.columns c.name ≡ true → IsIn c (kept_columns old new)
  stays c i has =
      in_removed column_name column_name (columns_only_in old new) old.columns c i (λ b j.
      not_same c.name b.name (λ e. both_ways (has_column new.columns b.name) (column_only old new b j).1 (ap (has_column new.columns) (sym e) ∙ has)))

  kept_apart : AreApart column_name (kept_columns old new)
  kept_apart = apart_removed column_name column_name (columns_only_in old new) old.columns (columns_apart old old_formed)

  kept_are : AreBetween old new (kept_columns old new)
  kept_are = record {
    from = λ c i. inl (from_kept c i);
    apart = kept_apart;
    shared = λ n here there.
        let c = any_from (λ d. same_name d.name n) old.columns here in
        any_of (λ d. same_name d.name n) (kept_columns old new) c.0 (stays c.0 c.1 (ap (has_column new.columns) (same_is_equal c.0.name n c.2) ∙ there)) c.2;
  }

  can_modify : (m : Column) → IsIn m (columns_moved old new) → CanModify new (kept_columns old new) m
  can_modify m i = by (column_at old.columns m.name) refl where
    is_there : IsIn m new.columns × (is_moved old m ≡ true)
    is_there = moved_only old new m i

    by : (o : Option Column) → column_at old.columns m.name ≡ o → CanModify new (kept_columns old new) m
    by None none = absurd (false≢true (sym (ap (λ o. option_map_or (λ before. not (same_column before m)) o false) none) ∙ is_there.1))
    by (Some c) at =
        let found = found_column old.columns m.name c at in
        let has : has_column new.columns c.name ≡ true = any_of (λ d. same_name d.name c.name) new.columns m is_there.0 (same_from m.name c.name (sym found.1)) in
        record { is_new = is_there.0; before = c; at = ap (column_at (kept_columns old new)) (sym found.1) ∙ finds_each (kept_columns old new) c kept_apart (stays c found.0 has); kinds = can.kept m c is_there.0 at }

  modified_are : AreBetween old new (modified_columns old new)
  modified_are = record {
    from = λ c i. inr (columns_to read old new old_formed new_formed primary c (in_left (modified_columns old new) (columns_only_in new old) c i));
    apart = apart_mapped (moved_to (columns_moved old new)) (kept_columns old new) (moved_named (columns_moved old new)) kept_apart;
    shared = λ n here there. has_mapped (moved_to (columns_moved old new)) (kept_columns old new) n (moved_named (columns_moved old new)) ∙ kept_are.shared n here there;
  }

  can_add : (d : Column) → IsIn d (columns_only_in new old) → CanAdd new (to_modifies old new) (modified_columns old new) d
  can_add d i = record {
    is_new = only.0;
    is_free = has_mapped (moved_to (columns_moved old new)) (kept_columns old new) d.name (moved_named (columns_moved old new)) ∙ none_from (λ c. same_name c.name d.name) (kept_columns old new) (λ c j. none_of (λ c. same_name c.name d.name) old.columns c only.1 (from_kept c j));
    not_dropped =
        none_both (λ c. drops c d.name) (to_drops old new) (map (λ c. change.Modify c spot.Keep c.nullable) (columns_moved old new))
        (none_both (λ c. drops c d.name) (key_drops old new) (map (λ c. change.Drop c.name) (columns_only_in old new))
        (none_mapped (λ c. drops c d.name) (λ k. change.DropKey k.name) (keys_only_in old new) (λ k j. refl))
        (none_mapped (λ c. drops c d.name) (λ c. change.Drop c.name) (columns_only_in old new) other))
        (none_mapped (λ c. drops c d.name) (λ c. change.Modify c spot.Keep c.nullable) (columns_moved old new) (λ c j. refl));
    has_fill = can.filled d only.0 (unfound_lacks old.columns d.name only.1);
  } where
    only : IsIn d new.columns × (has_column old.columns d.name ≡ false)
    only = column_only new old d i

    other : (c : Column) → IsIn c (columns_only_in old new) → same_name c.name d.name ≡ false
    other c j = not_same c.name d.name (λ e. both_ways (has_column new.columns c.name) (column_only old new c j).1 (any_of (λ x. same_name x.name c.name) new.columns d only.0 (same_from d.name c.name (sym e))))

  added_apart : AreApart column_name (columns_only_in new old)
  added_apart = apart_ordered column_name (filter (λ c. not (has_column old.columns c.name)) new.columns) (apart_filtered column_name (λ c. not (has_column old.columns c.name)) new.columns (columns_apart new new_formed))

  all_new : (n : Text) → has_column new.columns n ≡ true → has_column (modified_columns old new ++ columns_only_in new old) n ≡ true
  all_new n there =
      let c = any_from (λ d. same_name d.name n) new.columns there in
      any_of (λ d. same_name d.name n) (modified_columns old new ++ columns_only_in new old) c.0 (columns_back read old new old_formed new_formed primary c.0 c.1) c.2

  final_are : AreBetween old new (modified_columns old new ++ columns_only_in new old)
  final_are = record {
    from = λ c i. inr (columns_to read old new old_formed new_formed primary c i);
    apart = apart_both column_name (modified_columns old new) (columns_only_in new old) modified_are.apart added_apart (λ c d i j. none_of (λ x. same_name x.name d.name) (modified_columns old new) c (can_add d j).is_free i);
    shared = λ n here there. all_new n there;
  }

  -- a key that is added has a name that no kept one has
  can_add_key : (k : UniqueKey) → IsIn k (keys_only_in new old) → IsIn k new.uniques × (has_key (kept_keys old new) k.name ≡ false)
  can_add_key k i =
      let only = key_only new old k i in (
        only.0,
        none_from (λ j. same_name j.name k.name) (kept_keys old new) (λ j l. not_same j.name k.name (λ e.
            let is : j ≡ k = one_of_name unique_name new.uniques j k new_keys_apart (keys_shared.from_new j l) only.0 e in
            both_ways (list_any (same_unique k) old.uniques) only.1 (any_of (same_unique k) old.uniques k (subst (λ x. IsIn x old.uniques) is (keys_shared.from_old j l)) (same_unique_itself k)))),
      )

  none_added : NoneAdded (to_drops old new)
  none_added n =
      none_both (λ c. adds c n) (key_drops old new) (map (λ c. change.Drop c.name) (columns_only_in old new))
      (none_mapped (λ c. adds c n) (λ k. change.DropKey k.name) (keys_only_in old new) (λ k i. refl))
      (none_mapped (λ c. adds c n) (λ c. change.Drop c.name) (columns_only_in old new) (λ c i. refl))

  to_key_drops_pass : Pass read [] old (key_drops old new)
  to_key_drops_pass = key_drops_pass [] (keys_only_in old new) old.uniques (record {
    from = λ k i. i;
    apart = old_keys_apart;
    stand = old_key_stands;
  })

  to_drops_pass : Pass read [] old (to_drops old new)
  to_drops_pass =
      both_pass read [] old (key_drops old new) (map (λ c. change.Drop c.name) (columns_only_in old new)) to_key_drops_pass
      (subst (λ l. Pass read (key_drops old new) l (map (λ c. change.Drop c.name) (columns_only_in old new))) (sym (after_to_key_drops read old new old_formed new_formed primary))
      (drops_pass (key_drops old new) (columns_only_in old new) old.columns (kept_keys old new)
      (λ n. none_mapped (λ c. adds c n) (λ k. change.DropKey k.name) (keys_only_in old new) (λ k i. refl)) keys_shared as_before
      (apart_ordered column_name (filter (λ c. not (has_column new.columns c.name)) old.columns) (apart_filtered column_name (λ c. not (has_column new.columns c.name)) old.columns (columns_apart old old_formed)))
      (column_only old new)))

  to_modifies_pass : Pass read [] old (to_modifies old new)
  to_modifies_pass =
      both_pass read [] old (to_drops old new) (map (λ c. change.Modify c spot.Keep c.nullable) (columns_moved old new)) to_drops_pass
      (subst (λ l. Pass read (to_drops old new) l (map (λ c. change.Modify c spot.Keep c.nullable) (columns_moved old new))) (sym (after_to_drops read old new old_formed new_formed primary))
      (modifies_pass (to_drops old new) (columns_moved old new) (kept_columns old new) (kept_keys old new) none_added keys_shared kept_are
      (apart_ordered column_name (filter (is_moved old) new.columns) (apart_filtered column_name (is_moved old) new.columns (columns_apart new new_formed))) can_modify))

  to_adds_pass : Pass read [] old (to_adds old new)
  to_adds_pass =
      both_pass read [] old (to_modifies old new) (map (λ c. change.Add c spot.Last) (columns_only_in new old)) to_modifies_pass
      (subst (λ l. Pass read (to_modifies old new) l (map (λ c. change.Add c spot.Last) (columns_only_in new old))) (sym (after_to_modifies read old new old_formed new_formed primary))
      (adds_pass (to_modifies old new) (columns_only_in new old) (modified_columns old new) (kept_keys old new) keys_shared modified_are added_apart can_add))

  all_pass : Pass read [] old (alteration old new)
  unfolding alteration
  all_pass =
      both_pass read [] old (to_adds old new) (map (λ k. change.AddUnique k true) (keys_only_in new old)) to_adds_pass
      (subst (λ l. Pass read (to_adds old new) l (map (λ k. change.AddUnique k true) (keys_only_in new old))) (sym (after_to_adds read old new old_formed new_formed primary))
      (key_adds_pass (to_adds old new) (keys_only_in new old) (modified_columns old new ++ columns_only_in new old) (kept_keys old new) final_are all_new
      (keys_of_both (modified_columns old new ++ columns_only_in new old) (kept_keys old new) final_are keys_shared)
      (apart_ordered unique_name (filter (λ k. not (list_any (same_unique k) old.uniques)) new.uniques) (apart_filtered unique_name (λ k. not (list_any (same_unique k) old.uniques)) new.uniques new_keys_apart))
      can_add_key))

-- The changes that lead to a schema have an effect, which is that schema, where what stays is comparable and what is new has a fill.
pub alteration_has_effect : (read : Reading) (old new : Layout) → IsTrue (is_formed old) → IsTrue (is_formed new) → old.primary ≡ new.primary → CanBecome old new
    → (after : Layout) × (joined_effect read old (alteration old new) ≡ Ok after) × (schema_equal after new ≡ true)
unfolding joined_effect
alteration_has_effect read old new old_formed new_formed primary can =
    let there : joined_effect read old (alteration old new) ≡ Ok (after read old (alteration old new)) = all_steps read [] old (alteration old new) (all_pass read old new old_formed new_formed primary can) in
    (after read old (alteration old new), there, effect_of_alteration read old new (after read old (alteration old new)) old_formed new_formed primary there)

-- A schema can become each that it is at most.

has_some_fill : (c : Column) → is_some (fill_for_missing c) ≡ true → is_none (fill c) ≡ false
has_some_fill c e = by c.default_rule c.nullable e where
  by : (rule : DefaultRule) (nullable : Bool) → is_some (missing_by rule nullable) ≡ true → is_none (fill_by rule nullable c.kind) ≡ false
  by (default.Const v) nullable h = refl
  by default.Nothing true h = refl
  by default.Nothing false h = absurd (false≢true h)
  by default.Now nullable h = absurd (false≢true h)

pub can_become_greater : (old new : Layout) → IsTrue (is_formed new) → at_most old new ≡ true → CanBecome old new
can_become_greater old new formed low = record {
  kept = λ c before i at.
      let found = found_column old.columns c.name before at in
      let above = parts.columns before found.0 in
      let two : Some above.high ≡ Some c = sym above.at ∙ ap (column_at new.columns) found.1 ∙ finds_each new.columns c (columns_apart new formed) i in
      let is : above.high ≡ c = cc two in
      or_left (kind_at_most before.kind c.kind) (kind_at_most c.kind before.kind) (subst (λ (d : Column). kind_at_most before.kind d.kind ≡ true) is above.holds.kind);
  filled = λ c i none. has_some_fill c (parts.filled c i (lacks_unfound old.columns c.name none));
} where
  parts : AtMost old new
  parts = at_most_parts old new low
