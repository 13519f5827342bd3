-- The effect of the changes from one schema to another, wherever it has one, is the other schema.
use Rattle.std.proofs.Common.{◌≡◌, Bool, true, false, cond, List, [], ◌∷◌, ◌++◌, length, map, Option, Some, None, Result, Ok, Err, refl, sym, ap, subst, ◌∙◌, inl, inr, append_assoc, append-nil}
use Rattle.std.specs.Prelude.{◌⊎◌, ◌||◌, ◌&&◌, not, ◌==◌, IsTrue}
use Rattle.std.specs.Option.{option_map_or}
use Rattle.std.specs.List.{list_any, list_all, filter}
use Rattle.std.proofs.lemmas.Bool.{true≢false, not-true, not_from_true, not_from_false, cases_Bool, cond-true, cond-false, both_ways, or_parts, and_cases}
use Rattle.dm_list.specs.Answer.{first_refusal}
use Rattle.dm_schema.specs.declared.column.Column.{Column}
use Rattle.dm_schema.specs.declared.column.UniqueKey.{UniqueKey}
use Rattle.dm_schema.specs.declared.change.Change.{Change}
use Rattle.dm_schema.specs.declared.change.Change.TheVariants as change
use Rattle.dm_schema.specs.declared.change.Spot.TheVariants as spot
use Rattle.dm_schema.specs.declared.fault.EffectFault.{EffectFault}
use Rattle.dm_schema.specs.declared.fault.SchemaFault.{SchemaFault}
use Rattle.dm_schema.specs.declared.fault.SchemaFault.TheVariants as fault
use Rattle.dm_schema.specs.declared.fault.EffectFault.TheVariants as effect_fault
use Rattle.dm_schema.specs.Layout.{Layout}
use Rattle.dm_schema.specs.Names.{Text, same_name, column_at, has_column}
use Rattle.dm_schema.specs.Schemas.{is_formed, is_nullable_column, same_column, same_unique, schema_equal, joined_schema_of, refusals, has_too_many_keys, column_repeats, key_repeats, names_repeat, some_key_repeats_names, all_columns, has_nullable, is_unfit_default}
use Rattle.dm_schema.specs.Effect.{Making, Reading, is_among, without_column, replaced, modified_column, changed, with_columns, with_uniques, refusals_of, made, step, steps, joined_effect}
use Rattle.dm_join.specs.Alteration.{keys_only_in, columns_only_in, columns_moved, alteration}
use Rattle.dm_join.proofs.Lists.{IsIn, none_of, any_of, any_from, in_filter, from_filter, in_map, from_map, in_left, in_right, in_either}
use Rattle.dm_join.proofs.NameLemmas.{same_is_equal, same_from, same_itself, same_back, not_same}
use Rattle.dm_join.proofs.Orders.{AreApart, column_name, finds_each, in_ordered, from_ordered, apart_from}
use Rattle.dm_join.proofs.Exact.{column_exact}
use Rattle.dm_join.proofs.Formed.{Formed, formed_parts}
use Rattle.dm_join.proofs.JoinFormed.{unique_name}
use Rattle.dm_join.proofs.JoinAnswers.{not_refused}
use Rattle.dm_join.proofs.AtMostLaws.{has_unique, same_unique_itself, equal_apart}
use Rattle.dm_join.proofs.AlterationLaws.{is_moved}

-- What the steps leave.

-- the layout after changes of which none is refused
abbrev pub after : Reading → Layout → List Change → Layout
after read layout [] = layout
after read layout (c ∷ cs) = after read (changed read layout c) cs

after_both : (read : Reading) (layout : Layout) (xs ys : List Change) → after read layout (xs ++ ys) ≡ after read (after read layout xs) ys
after_both read layout [] ys = refl
after_both read layout (x ∷ xs) ys = after_both read (changed read layout x) xs ys

-- columns and keys with names apart
record Apart (l : Layout) : Type 0 where
  columns : AreApart column_name l.columns
  keys : AreApart unique_name l.uniques

-- what is asked of a way to make schemas
record Makes (make : Making) : Type 0 where
  is : (columns : List Column) (primary : List Text) (uniques : List UniqueKey) (l : Layout) → make columns primary uniques ≡ Ok l → record { columns = columns; primary = primary; uniques = uniques } ≡ l
  apart : (columns : List Column) (primary : List Text) (uniques : List UniqueKey) (l : Layout) → make columns primary uniques ≡ Ok l → Apart l

made_err : (make : Making) (l : Layout) (e : SchemaFault) → make l.columns l.primary l.uniques ≡ Err e → made make l ≡ Err (effect_fault.Made e)
made_err make l e h = rw h refl

pub made_ok : (make : Making) (l m : Layout) → make l.columns l.primary l.uniques ≡ Ok m → made make l ≡ Ok m
made_ok make l m h = rw h refl

step_refused : (make : Making) (read : Reading) (before : List Change) (a : Layout) (c : Change) (e : EffectFault) → first_refusal (refusals_of read before a c) ≡ Some e → step make read before a c ≡ Err e
step_refused make read before a c e h = rw h refl

pub step_passed : (make : Making) (read : Reading) (before : List Change) (a : Layout) (c : Change) → first_refusal (refusals_of read before a c) ≡ None → step make read before a c ≡ made make (changed read a c)
step_passed make read before a c h = rw h refl

-- one step that isn't refused
one_step : (make : Making) → Makes make → (read : Reading) (before : List Change) (a b : Layout) (c : Change) → step make read before a c ≡ Ok b → (changed read a c ≡ b) × Apart b
one_step make makes read before a b c e = by (first_refusal (refusals_of read before a c)) refl where
  next : Layout
  next = changed read a c

  by_made : first_refusal (refusals_of read before a c) ≡ None → (r : Result Layout SchemaFault) → make next.columns next.primary next.uniques ≡ r → (next ≡ b) × Apart b
  by_made none (Err f) m = absurd (cc (sym (step_passed make read before a c none ∙ made_err make next f m) ∙ e))
  by_made none (Ok l) m =
      let is : l ≡ b = cc (sym (step_passed make read before a c none ∙ made_ok make next l m) ∙ e) in
      (makes.is next.columns next.primary next.uniques l m ∙ is, subst Apart is (makes.apart next.columns next.primary next.uniques l m))

  by : (o : Option EffectFault) → first_refusal (refusals_of read before a c) ≡ o → (next ≡ b) × Apart b
  by (Some f) refused = absurd (cc (sym (step_refused make read before a c f refused) ∙ e))
  by None none = by_made none (make next.columns next.primary next.uniques) refl

steps_failed : (make : Making) (read : Reading) (before : List Change) (e : EffectFault) (cs : List Change) → steps make read before (Err e) cs ≡ Err e
steps_failed make read before e [] = refl
steps_failed make read before e (c ∷ cs) = refl

effect_is : (make : Making) → Makes make → (read : Reading) (before : List Change) (a b : Layout) (cs : List Change) → Apart a → steps make read before (Ok a) cs ≡ Ok b → (after read a cs ≡ b) × Apart b
effect_is make makes read before a b [] apart e = let same : a ≡ b = cc e in (same, subst Apart same apart)
effect_is make makes read before a b (c ∷ cs) apart e = by (step make read before a c) refl (λ d. effect_is make makes read (before ++ c ∷ []) d b cs) where
  by : (r : Result Layout EffectFault) → step make read before a c ≡ r → ((d : Layout) → Apart d → steps make read (before ++ c ∷ []) (Ok d) cs ≡ Ok b → (after read d cs ≡ b) × Apart b)
      → (after read (changed read a c) cs ≡ b) × Apart b
  by (Err f) is rest = absurd (cc (sym (ap (λ r. steps make read (before ++ c ∷ []) r cs) is ∙ steps_failed make read (before ++ c ∷ []) f cs) ∙ e))
  by (Ok d) is rest =
      let one = one_step make makes read before a d c is in
      let later = rest d one.1 (ap (λ r. steps make read (before ++ c ∷ []) r cs) (sym is) ∙ e) in
      (ap (λ l. after read l cs) one.0 ∙ later.0, later.1)

-- Schemas that are made of a join's columns.

not_first : {E : Type 0} (b : Bool) (f : E) (rest : Option E) → cond b (Some f) rest ≡ None → (b ≡ false) × (rest ≡ None)
not_first true f rest e = absurd (cc e)
not_first false f rest e = (refl, e)

joined_makes : Makes joined_schema_of
joined_makes = record {
  is = λ columns primary uniques l e. (not_refused (first_refusal ((has_too_many_keys uniques, fault.TooMany) ∷ refusals columns primary uniques)) (record { columns = columns; primary = primary; uniques = uniques }) l e).1;
  apart = apart;
} where
  apart : (columns : List Column) (primary : List Text) (uniques : List UniqueKey) (l : Layout) → joined_schema_of columns primary uniques ≡ Ok l → Apart l
  apart columns primary uniques l e =
      let t = not_refused (first_refusal ((has_too_many_keys uniques, fault.TooMany) ∷ refusals columns primary uniques)) (record { columns = columns; primary = primary; uniques = uniques }) l e in
      let one = not_first (has_too_many_keys uniques) fault.TooMany (first_refusal (refusals columns primary uniques)) t.0 in
      let two = not_first (column_repeats columns || key_repeats uniques || names_repeat primary || some_key_repeats_names uniques) fault.Duplicate
      (first_refusal ((length primary == 0, fault.NoPrimary) ∷ (not (all_columns columns primary && list_all (λ k. all_columns columns k.columns) uniques), fault.UnknownColumn) ∷ (has_nullable columns primary, fault.NullablePrimary) ∷ (list_any is_unfit_default columns, fault.DefaultUnfit) ∷ [])) one.1 in
      let three = or_parts (column_repeats columns || key_repeats uniques || names_repeat primary) (some_key_repeats_names uniques) two.0 in
      let four = or_parts (column_repeats columns || key_repeats uniques) (names_repeat primary) three.0 in
      let five = or_parts (column_repeats columns) (key_repeats uniques) four.0 in
      subst Apart t.1 (record { columns = apart_from column_name columns five.0; keys = apart_from unique_name uniques five.1 })

-- What each group of changes does.

-- a list without what has one of the names
unfoldable pub removed : {A B : Type 0} → (A → Text) → (B → Text) → List B → List A → List A
removed name other [] xs = xs
removed name other (b ∷ bs) xs = removed name other bs (filter (λ x. not (same_name (name x) (other b))) xs)

pub from_removed : {A B : Type 0} (name : A → Text) (other : B → Text) (bs : List B) (xs : List A) (x : A) → IsIn x (removed name other bs xs) → IsIn x xs × ((b : B) → IsIn b bs → same_name (name x) (other b) ≡ false)
unfolding removed
from_removed name other [] xs x i = (i, λ b j. absurd j)
from_removed {A} {B} name other (b ∷ bs) xs x i = by (from_removed name other bs (filter (λ y. not (same_name (name y) (other b))) xs) x i) where
  by : IsIn x (filter (λ y. not (same_name (name y) (other b))) xs) × ((c : B) → IsIn c bs → same_name (name x) (other c) ≡ false) → IsIn x xs × ((c : B) → IsIn c (b ∷ bs) → same_name (name x) (other c) ≡ false)
  by rest = (kept.0, each) where
    kept : IsIn x xs × (not (same_name (name x) (other b)) ≡ true)
    kept = from_filter (λ y. not (same_name (name y) (other b))) xs x rest.0

    each : (c : B) → IsIn c (b ∷ bs) → same_name (name x) (other c) ≡ false
    each c (inl is) = ap (λ d. same_name (name x) (other d)) (sym is) ∙ not-true (same_name (name x) (other b)) kept.1
    each c (inr j) = rest.1 c j

pub in_removed : {A B : Type 0} (name : A → Text) (other : B → Text) (bs : List B) (xs : List A) (x : A) → IsIn x xs → ((b : B) → IsIn b bs → same_name (name x) (other b) ≡ false) → IsIn x (removed name other bs xs)
unfolding removed
in_removed name other [] xs x i h = i
in_removed name other (b ∷ bs) xs x i h =
    in_removed name other bs (filter (λ y. not (same_name (name y) (other b))) xs) x
    (in_filter (λ y. not (same_name (name y) (other b))) xs x i (not_from_false (same_name (name x) (other b)) (h b (inl refl)))) (λ c j. h c (inr j))

after_key_drops : (read : Reading) (ks : List UniqueKey) (l : Layout) → after read l (map (λ k. change.DropKey k.name) ks) ≡ with_uniques l (removed unique_name unique_name ks l.uniques)
unfolding removed
after_key_drops read [] l = refl
after_key_drops read (k ∷ ks) l = after_key_drops read ks (with_uniques l (filter (λ j. not (same_name j.name k.name)) l.uniques))

after_drops : (read : Reading) (cs : List Column) (l : Layout) → after read l (map (λ c. change.Drop c.name) cs) ≡ with_columns l (removed column_name column_name cs l.columns)
unfolding removed
after_drops read [] l = refl
after_drops read (c ∷ cs) l = after_drops read cs (with_columns l (without_column l.columns c.name))

after_adds : (read : Reading) (cs : List Column) (l : Layout) → after read l (map (λ c. change.Add c spot.Last) cs) ≡ with_columns l (l.columns ++ cs)
after_adds read [] l = ap (with_columns l) (sym (append-nil l.columns))
after_adds read (c ∷ cs) l = after_adds read cs (with_columns l (l.columns ++ c ∷ [])) ∙ ap (with_columns l) (append_assoc l.columns (c ∷ []) cs)

after_key_adds : (read : Reading) (ks : List UniqueKey) (l : Layout) → after read l (map (λ k. change.AddUnique k true) ks) ≡ with_uniques l (l.uniques ++ ks)
after_key_adds read [] l = ap (with_uniques l) (sym (append-nil l.uniques))
after_key_adds read (k ∷ ks) l = after_key_adds read ks (with_uniques l (l.uniques ++ k ∷ [])) ∙ ap (with_uniques l) (append_assoc l.uniques (k ∷ []) ks)

-- a column behind modifications
unfoldable pub moved_to : List Column → Column → Column
moved_to [] c = c
moved_to (m ∷ ms) c = moved_to ms (cond (same_name c.name m.name) m c)

map_twice : (f g : Column → Column) (cs : List Column) → map f (map g cs) ≡ map (λ c. f (g c)) cs
map_twice f g [] = refl
map_twice f g (c ∷ cs) = ap (λ l. f (g c) ∷ l) (map_twice f g cs)

map_itself : (cs : List Column) → map (moved_to []) cs ≡ cs
unfolding moved_to
map_itself [] = refl
map_itself (c ∷ cs) = ap (λ l. c ∷ l) (map_itself cs)

-- whichever name is asked about the other
pub among_alike : (name : Text) (names : List Text) → list_any (λ n. same_name name n) names ≡ is_among names name
among_alike name [] = refl
among_alike name (n ∷ ns) = ap (λ b. b || list_any (λ k. same_name name k) ns) (same_back name n) ∙ ap (λ b. same_name n name || b) (among_alike name ns)

-- columns of the primary key that aren't nullable stay as they are written
pub as_written : (l : Layout) (m : Column) → is_nullable_column l.primary m ≡ false → modified_column l m ≡ m
as_written l m e = by (is_among l.primary m.name) refl where
  not_null : is_among l.primary m.name ≡ true → (m.nullable ≡ false) ⊎ (list_any (λ n. same_name m.name n) l.primary ≡ false) → m.nullable ≡ false
  not_null among (inl f) = f
  not_null among (inr f) = absurd (both_ways _ f (among_alike m.name l.primary ∙ among))

  by : (b : Bool) → is_among l.primary m.name ≡ b → cond b (record { name = m.name; kind = m.kind; nullable = false; default_rule = m.default_rule }) m ≡ m
  by false among = refl
  by true among = ap (λ n. record { name = m.name; kind = m.kind; nullable = n; default_rule = m.default_rule }) (sym (not_null among (and_cases m.nullable (list_any (λ n. same_name m.name n) l.primary) e)))

after_modifies : (read : Reading) (ms : List Column) (l : Layout) → ((m : Column) → IsIn m ms → is_nullable_column l.primary m ≡ false)
    → after read l (map (λ c. change.Modify c spot.Keep c.nullable) ms) ≡ with_columns l (map (moved_to ms) l.columns)
unfolding moved_to
after_modifies read [] l h = ap (with_columns l) (sym (map_itself l.columns))
after_modifies read (m ∷ ms) l h =
    ap (λ c. after read (with_columns l (replaced c l.columns)) (map (λ c. change.Modify c spot.Keep c.nullable) ms)) (as_written l m (h m (inl refl)))
    ∙ after_modifies read ms (with_columns l (replaced m l.columns)) (λ c i. h c (inr i))
    ∙ ap (with_columns l) (map_twice (moved_to ms) (λ c. cond (same_name c.name m.name) m c) l.columns)

stays : (ms : List Column) (c : Column) → ((m : Column) → IsIn m ms → same_name c.name m.name ≡ false) → moved_to ms c ≡ c
unfolding moved_to
stays [] c h = refl
stays (m ∷ ms) c h = ap (moved_to ms) (cond-false (same_name c.name m.name) m c (h m (inl refl))) ∙ stays ms c (λ d i. h d (inr i))

-- a column that each of its name is, stays
settled : (ms : List Column) (m : Column) → ((x : Column) → IsIn x ms → x.name ≡ m.name → x ≡ m) → moved_to ms m ≡ m
unfolding moved_to
settled [] m h = refl
settled (x ∷ xs) m h = by (cases_Bool (same_name m.name x.name)) (settled xs m (λ y j. h y (inr j))) where
  by : (same_name m.name x.name ≡ true) ⊎ (same_name m.name x.name ≡ false) → moved_to xs m ≡ m → moved_to xs (cond (same_name m.name x.name) x m) ≡ m
  by (inl same) rest = ap (moved_to xs) (cond-true (same_name m.name x.name) x m same ∙ h x (inl refl) (sym (same_is_equal m.name x.name same))) ∙ rest
  by (inr other) rest = ap (moved_to xs) (cond-false (same_name m.name x.name) x m other) ∙ rest

moves : (ms : List Column) (c m : Column) → IsIn m ms → m.name ≡ c.name → ((d : Column) → IsIn d ms → d.name ≡ m.name → d ≡ m) → moved_to ms c ≡ m
unfolding moved_to
moves [] c m i e once = absurd i
moves (d ∷ ds) c m i e once = by (cases_Bool (same_name c.name d.name)) i (λ j. moves ds c m j e (λ y k. once y (inr k))) where
  by : (same_name c.name d.name ≡ true) ⊎ (same_name c.name d.name ≡ false) → IsIn m (d ∷ ds) → (IsIn m ds → moved_to ds c ≡ m) → moved_to ds (cond (same_name c.name d.name) d c) ≡ m
  by (inl same) j rest =
      ap (moved_to ds) (cond-true (same_name c.name d.name) d c same ∙ once d (inl refl) (sym (same_is_equal c.name d.name same) ∙ sym e))
      ∙ settled ds m (λ y k. once y (inr k))
  by (inr other) (inl is) rest = absurd (true≢false (sym (same_from c.name d.name (sym e ∙ ap (λ (x : Column). x.name) (sym is))) ∙ other))
  by (inr other) (inr j) rest = ap (moved_to ds) (cond-false (same_name c.name d.name) d c other) ∙ rest j

-- where names are apart, one name is one thing
pub one_of_name : {A : Type 0} (name : A → Text) (xs : List A) (x y : A) → AreApart name xs → IsIn x xs → IsIn y xs → name x ≡ name y → x ≡ y
one_of_name name [] x y h i j e = absurd i
one_of_name name (z ∷ zs) x y h (inl is) (inl js) e = sym is ∙ js
one_of_name name (z ∷ zs) x y h (inl is) (inr j) e = absurd (true≢false (sym (same_from (name z) (name y) (ap name is ∙ e)) ∙ h.0 y j))
one_of_name name (z ∷ zs) x y h (inr i) (inl js) e = absurd (true≢false (sym (same_from (name z) (name x) (ap name js ∙ sym e)) ∙ h.0 x i))
one_of_name name (z ∷ zs) x y h (inr i) (inr j) e = one_of_name name zs x y h.1 i j e

pub key_only : (here there : Layout) (k : UniqueKey) → IsIn k (keys_only_in here there) → IsIn k here.uniques × (list_any (same_unique k) there.uniques ≡ false)
key_only here there k i =
    let f = from_filter (λ j. not (list_any (same_unique j) there.uniques)) here.uniques k (from_ordered unique_name (filter (λ j. not (list_any (same_unique j) there.uniques)) here.uniques) k i) in
    (f.0, not-true (list_any (same_unique k) there.uniques) f.1)

in_key_only : (here there : Layout) (k : UniqueKey) → IsIn k here.uniques → list_any (same_unique k) there.uniques ≡ false → IsIn k (keys_only_in here there)
in_key_only here there k i e =
    in_ordered unique_name (filter (λ j. not (list_any (same_unique j) there.uniques)) here.uniques) k
    (in_filter (λ j. not (list_any (same_unique j) there.uniques)) here.uniques k i (not_from_false (list_any (same_unique k) there.uniques) e))

pub column_only : (here there : Layout) (c : Column) → IsIn c (columns_only_in here there) → IsIn c here.columns × (has_column there.columns c.name ≡ false)
column_only here there c i =
    let f = from_filter (λ d. not (has_column there.columns d.name)) here.columns c (from_ordered column_name (filter (λ d. not (has_column there.columns d.name)) here.columns) c i) in
    (f.0, not-true (has_column there.columns c.name) f.1)

in_column_only : (here there : Layout) (c : Column) → IsIn c here.columns → has_column there.columns c.name ≡ false → IsIn c (columns_only_in here there)
in_column_only here there c i e =
    in_ordered column_name (filter (λ d. not (has_column there.columns d.name)) here.columns) c
    (in_filter (λ d. not (has_column there.columns d.name)) here.columns c i (not_from_false (has_column there.columns c.name) e))

pub moved_only : (old new : Layout) (c : Column) → IsIn c (columns_moved old new) → IsIn c new.columns × (is_moved old c ≡ true)
moved_only old new c i = from_filter (is_moved old) new.columns c (from_ordered column_name (filter (is_moved old) new.columns) c i)

in_moved : (old new : Layout) (c : Column) → IsIn c new.columns → is_moved old c ≡ true → IsIn c (columns_moved old new)
in_moved old new c i e = in_ordered column_name (filter (is_moved old) new.columns) c (in_filter (is_moved old) new.columns c i e)

-- what the new schema has of the old one: the columns whose names it has, and the keys
abbrev pub kept_columns : Layout → Layout → List Column
kept_columns old new = removed column_name column_name (columns_only_in old new) old.columns

abbrev pub kept_keys : Layout → Layout → List UniqueKey
kept_keys old new = removed unique_name unique_name (keys_only_in old new) old.uniques

-- those columns as they are behind the modifications
abbrev pub modified_columns : Layout → Layout → List Column
modified_columns old new = map (moved_to (columns_moved old new)) (kept_columns old new)

-- an alteration's changes up to the end of each group but the last
abbrev pub key_drops : Layout → Layout → List Change
key_drops old new = map (λ k. change.DropKey k.name) (keys_only_in old new)

abbrev pub to_drops : Layout → Layout → List Change
to_drops old new = key_drops old new ++ map (λ c. change.Drop c.name) (columns_only_in old new)

abbrev pub to_modifies : Layout → Layout → List Change
to_modifies old new = to_drops old new ++ map (λ c. change.Modify c spot.Keep c.nullable) (columns_moved old new)

abbrev pub to_adds : Layout → Layout → List Change
to_adds old new = to_modifies old new ++ map (λ c. change.Add c spot.Last) (columns_only_in new old)

module _ (read : Reading) (old new : Layout) (old_formed : is_formed old ≡ true) (new_formed : is_formed new ≡ true) (primary : old.primary ≡ new.primary) where
  of_old : Formed old
  of_old = formed_parts old old_formed

  of_new : Formed new
  of_new = formed_parts new new_formed

  old_apart : Apart old
  old_apart = record { columns = apart_from column_name old.columns of_old.columns_apart; keys = apart_from unique_name old.uniques of_old.keys_apart }

  new_apart : Apart new
  new_apart = record { columns = apart_from column_name new.columns of_new.columns_apart; keys = apart_from unique_name new.uniques of_new.keys_apart }

  abbrev ms : List Column
  ms = columns_moved old new

  abbrev final : Layout
  final = record { columns = modified_columns old new ++ columns_only_in new old; primary = old.primary; uniques = kept_keys old new ++ keys_only_in new old }

  moved_not_nullable : (m : Column) → IsIn m ms → is_nullable_column old.primary m ≡ false
  moved_not_nullable m i = ap (λ p. is_nullable_column p m) primary ∙ none_of (is_nullable_column new.primary) new.columns m of_new.not_nullable (moved_only old new m i).0

  pub after_to_key_drops : after read old (key_drops old new) ≡ with_uniques old (kept_keys old new)
  after_to_key_drops = after_key_drops read (keys_only_in old new) old

  pub after_to_drops : after read old (to_drops old new) ≡ record { columns = kept_columns old new; primary = old.primary; uniques = kept_keys old new }
  after_to_drops =
      after_both read old (key_drops old new) (map (λ c. change.Drop c.name) (columns_only_in old new))
      ∙ ap (λ l. after read l (map (λ c. change.Drop c.name) (columns_only_in old new))) after_to_key_drops
      ∙ after_drops read (columns_only_in old new) (with_uniques old (kept_keys old new))

  pub after_to_modifies : after read old (to_modifies old new) ≡ record { columns = modified_columns old new; primary = old.primary; uniques = kept_keys old new }
  after_to_modifies =
      after_both read old (to_drops old new) (map (λ c. change.Modify c spot.Keep c.nullable) ms)
      ∙ ap (λ l. after read l (map (λ c. change.Modify c spot.Keep c.nullable) ms)) after_to_drops
      ∙ after_modifies read ms (record { columns = kept_columns old new; primary = old.primary; uniques = kept_keys old new }) moved_not_nullable

  pub after_to_adds : after read old (to_adds old new) ≡ record { columns = modified_columns old new ++ columns_only_in new old; primary = old.primary; uniques = kept_keys old new }
  after_to_adds =
      after_both read old (to_modifies old new) (map (λ c. change.Add c spot.Last) (columns_only_in new old))
      ∙ ap (λ l. after read l (map (λ c. change.Add c spot.Last) (columns_only_in new old))) after_to_modifies
      ∙ after_adds read (columns_only_in new old) (record { columns = modified_columns old new; primary = old.primary; uniques = kept_keys old new })

  after_all : after read old (alteration old new) ≡ final
  unfolding alteration
  after_all =
      after_both read old (to_adds old new) (map (λ k. change.AddUnique k true) (keys_only_in new old))
      ∙ ap (λ l. after read l (map (λ k. change.AddUnique k true) (keys_only_in new old))) after_to_adds
      ∙ after_key_adds read (keys_only_in new old) (record { columns = modified_columns old new ++ columns_only_in new old; primary = old.primary; uniques = kept_keys old new })

  -- a column that both have is then the new one
  moved_is_new : (c n : Column) → IsIn c old.columns → IsIn n new.columns → n.name ≡ c.name → moved_to ms c ≡ n
  moved_is_new c n i j named = by (cases_Bool (same_column c n)) where
    moved_is : is_moved old n ≡ not (same_column c n)
    moved_is = ap (λ o. option_map_or (λ before. not (same_column before n)) o false) (ap (column_at old.columns) named ∙ finds_each old.columns c old_apart.columns i)

    new_one : (d : Column) → IsIn d ms → d.name ≡ n.name → d ≡ n
    new_one d k e = one_of_name column_name new.columns d n new_apart.columns (moved_only old new d k).0 j e

    by : (same_column c n ≡ true) ⊎ (same_column c n ≡ false) → moved_to ms c ≡ n
    by (inl same) =
        stays ms c (λ m k. not_same c.name m.name (λ e.
        let is : m ≡ n = new_one m k (sym e ∙ sym named) in
        true≢false (sym (moved_only old new m k).1 ∙ ap (is_moved old) is ∙ moved_is ∙ not_from_true (same_column c n) same)))
        ∙ column_exact c n same
    by (inr other) = moves ms c n (in_moved old new n j (moved_is ∙ not_from_false (same_column c n) other)) named new_one

  pub columns_to : (c : Column) → IsIn c final.columns → IsIn c new.columns
  columns_to c i = by (in_either (modified_columns old new) (columns_only_in new old) c i) where
    from_kept : (d : Column) → IsIn d (kept_columns old new) → moved_to ms d ≡ c → IsIn c new.columns
    from_kept d j e = have (cases_Bool (has_column new.columns d.name)) where
      r : IsIn d old.columns × ((b : Column) → IsIn b (columns_only_in old new) → same_name d.name b.name ≡ false)
      r = from_removed column_name column_name (columns_only_in old new) old.columns d j

      have : (has_column new.columns d.name ≡ true) ⊎ (has_column new.columns d.name ≡ false) → IsIn c new.columns
      have (inl some) =
          let n = any_from (λ x. same_name x.name d.name) new.columns some in
          subst (λ x. IsIn x new.columns) (sym (moved_is_new d n.0 r.0 n.1 (same_is_equal n.0.name d.name n.2)) ∙ e) n.1
      have (inr none) = absurd (true≢false (sym (same_itself d.name) ∙ r.1 d (in_column_only old new d r.0 none)))

    by : IsIn c (modified_columns old new) ⊎ IsIn c (columns_only_in new old) → IsIn c new.columns
    by (inl j) = let d = from_map (moved_to ms) (kept_columns old new) c j in from_kept d.0 d.1 d.2
    by (inr j) = (column_only new old c j).0

  pub columns_back : (n : Column) → IsIn n new.columns → IsIn n final.columns
  columns_back n i = by (cases_Bool (has_column old.columns n.name)) where
    by : (has_column old.columns n.name ≡ true) ⊎ (has_column old.columns n.name ≡ false) → IsIn n final.columns
    by (inr none) = in_right (modified_columns old new) (columns_only_in new old) n (in_column_only new old n i none)
    by (inl some) =
        let c = any_from (λ x. same_name x.name n.name) old.columns some in
        let named : c.0.name ≡ n.name = same_is_equal c.0.name n.name c.2 in
        let kept : IsIn c.0 (kept_columns old new) =
        in_removed column_name column_name (columns_only_in old new) old.columns c.0 c.1 (λ b j.
        not_same c.0.name b.name (λ e. both_ways (has_column new.columns b.name) (column_only old new b j).1 (any_of (λ x. same_name x.name b.name) new.columns n i (same_from n.name b.name (sym named ∙ e))))) in
        in_left (modified_columns old new) (columns_only_in new old) n
        (subst (λ x. IsIn x (modified_columns old new)) (moved_is_new c.0 n c.1 i (sym named)) (in_map (moved_to ms) (kept_columns old new) c.0 kept))

  pub keys_to : (k : UniqueKey) → IsIn k final.uniques → IsIn k new.uniques
  keys_to k i = by (in_either (kept_keys old new) (keys_only_in new old) k i) where
    by : IsIn k (kept_keys old new) ⊎ IsIn k (keys_only_in new old) → IsIn k new.uniques
    by (inr j) = (key_only new old k j).0
    by (inl j) = have (cases_Bool (list_any (same_unique k) new.uniques)) where
      r : IsIn k old.uniques × ((b : UniqueKey) → IsIn b (keys_only_in old new) → same_name k.name b.name ≡ false)
      r = from_removed unique_name unique_name (keys_only_in old new) old.uniques k j

      have : (list_any (same_unique k) new.uniques ≡ true) ⊎ (list_any (same_unique k) new.uniques ≡ false) → IsIn k new.uniques
      have (inl some) = has_unique new.uniques k some
      have (inr none) = absurd (true≢false (sym (same_itself k.name) ∙ r.1 k (in_key_only old new k r.0 none)))

  keys_back : (k : UniqueKey) → IsIn k new.uniques → IsIn k final.uniques
  keys_back k i = by (cases_Bool (list_any (same_unique k) old.uniques)) where
    by : (list_any (same_unique k) old.uniques ≡ true) ⊎ (list_any (same_unique k) old.uniques ≡ false) → IsIn k final.uniques
    by (inr none) = in_right (kept_keys old new) (keys_only_in new old) k (in_key_only new old k i none)
    by (inl some) =
        let there = has_unique old.uniques k some in
        in_left (kept_keys old new) (keys_only_in new old) k
        (in_removed unique_name unique_name (keys_only_in old new) old.uniques k there (λ b j.
        not_same k.name b.name (λ e.
        let o = key_only old new b j in
        let is : k ≡ b = one_of_name unique_name old.uniques k b old_apart.keys there o.0 e in
        both_ways (list_any (same_unique b) new.uniques) o.1 (any_of (same_unique b) new.uniques k i (ap (λ x. same_unique x k) (sym is) ∙ same_unique_itself k)))))

  final_is_equal : (s : Layout) → final ≡ s → Apart s → schema_equal s new ≡ true
  final_is_equal s is s_apart =
      equal_apart s new s_apart.columns s_apart.keys new_apart.columns new_apart.keys (ap (λ (l : Layout). l.primary) (sym is) ∙ primary)
      (λ c i. columns_to c (subst (λ (l : Layout). IsIn c l.columns) (sym is) i)) (λ c i. subst (λ (l : Layout). IsIn c l.columns) is (columns_back c i))
      (λ k i. keys_to k (subst (λ (l : Layout). IsIn k l.uniques) (sym is) i)) (λ k i. subst (λ (l : Layout). IsIn k l.uniques) is (keys_back k i))

-- the effect of the changes that lead to a schema, wherever they have one, is that schema
pub effect_of_alteration : (read : Reading) (old new s : Layout) → IsTrue (is_formed old) → IsTrue (is_formed new) → old.primary ≡ new.primary → joined_effect read old (alteration old new) ≡ Ok s → schema_equal s new ≡ true
unfolding joined_effect
effect_of_alteration read old new s old_formed new_formed primary e =
    let r = effect_is joined_schema_of joined_makes read [] old s (alteration old new) (old_apart read old new old_formed new_formed primary) e in
    final_is_equal read old new old_formed new_formed primary s (sym (after_all read old new old_formed new_formed primary) ∙ r.0) r.1
