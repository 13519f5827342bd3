-- Laws of the order of schemas: it is reflexive and transitive, and two schemas of which each is at most the other are equal.
use Rattle.std.proofs.Common.{◌≡◌, Bool, true, false, cond, List, [], ◌∷◌, Option, Some, None, refl, sym, ap, subst, ◌∙◌, inl, inr}
use Rattle.std.specs.Prelude.{◌⊎◌, ◌||◌, ◌&&◌, not, is_some, IsTrue}
use Rattle.std.specs.declared.cmp.Ordering.TheVariants.{Less}
use Rattle.std.specs.declared.cmp.Ordering.{Ordering}
use Rattle.std.specs.declared.cmp.Ordering.TheVariants.{Equal, Greater}
use Rattle.std.specs.Ordering.{is_lt, is_eq, ordering_reverse}
use Rattle.std.specs.List.{list_any, list_all}
use Rattle.std.specs.Cmp.Lexicographic.{pointwise}
use Rattle.std.proofs.lemmas.Bool.{false≢true, true≢false, and_parts, and_from, cases_Bool, both_ways}
use Rattle.std.proofs.lemmas.Cmp.{nat_list_cmp_total, tied_itself}
use Rattle.std.proofs.lemmas.Map.Lookups.{exact_bytes}
use Rattle.dm_schema.specs.declared.column.DefaultRule.{DefaultRule}
use Rattle.dm_schema.specs.declared.column.DefaultRule.TheVariants as default
use Rattle.dm_schema.specs.declared.column.Column.{Column}
use Rattle.dm_schema.specs.declared.column.UniqueKey.{UniqueKey}
use Rattle.dm_schema.specs.contracts.column.ColumnOrd.TheImpl.Laws as column_laws
use Rattle.dm_schema.specs.contracts.column.UniqueKeyOrd.TheImpl.Laws as unique_laws
use Rattle.dm_schema.specs.contracts.column.DefaultRuleOrd.TheImpl.Laws as default_laws
use Rattle.dm_schema.specs.Layout.{Layout}
use Rattle.dm_schema.specs.Names.{Text, name_cmp, same_name, column_at, has_column}
use Rattle.dm_schema.specs.NameOrder.{put_by, in_order_of, columns_in_order, uniques_in_order}
use Rattle.dm_schema.specs.KindOrder.{kind_at_most}
use Rattle.dm_schema.specs.Fill.{fill_for_missing, missing_by}
use Rattle.dm_schema.specs.Schemas.{is_formed, same_column, same_unique, schema_equal}
use Rattle.dm_join.specs.AtMost.{same_names, same_default, column_at_most, is_kept, at_most}
use Rattle.dm_join.proofs.Lists.{IsIn, all_of, all_from, any_of, any_from, none_from}
use Rattle.dm_join.proofs.NameLemmas.{same_is_equal, same_itself, same_from, not_same}
use Rattle.dm_join.proofs.NameSetLemmas.{not_before_itself, not_both_before, before_third}
use Rattle.dm_join.proofs.Orders.{AreApart, column_name, found_column, finds_each, in_ordered, from_ordered, from_put, apart_from}
use Rattle.dm_join.proofs.Exact.{names_exact, default_exact, unique_exact}
use Rattle.dm_join.proofs.Formed.{formed_parts}
use Rattle.dm_join.proofs.JoinFormed.{unique_name}
use Rattle.dm_join.proofs.KindLaws.{kind_reflexive, kind_transitive, kind_antisymmetric}

pub names_itself : (names : List Text) → same_names names names ≡ true
names_itself [] = refl
names_itself (n ∷ ns) = and_from (same_name n n) (same_names ns ns) (same_itself n) (names_itself ns)

pub same_column_itself : (c : Column) → same_column c c ≡ true
same_column_itself c = column_laws.matches_eq-law c c ∙ ap is_eq (tied_itself column_laws.total-law c)

pub same_unique_itself : (k : UniqueKey) → same_unique k k ≡ true
same_unique_itself k = unique_laws.matches_eq-law k k ∙ ap is_eq (tied_itself unique_laws.total-law k)

pub same_default_itself : (d : DefaultRule) → same_default d d ≡ true
same_default_itself d = default_laws.matches_eq-law d d ∙ ap is_eq (tied_itself default_laws.total-law d)

-- what one column can hold, another can
pub record ColumnAtMost (low high : Column) : Type 0 where
  pub kind : kind_at_most low.kind high.kind ≡ true
  pub nullable : low.nullable ≡ true → high.nullable ≡ true
  pub default_rule : low.default_rule ≡ high.default_rule

nullable_by : (a b : Bool) → (not a || b) ≡ true → a ≡ true → b ≡ true
nullable_by true b e h = e
nullable_by false b e h = absurd (false≢true h)

nullable_from : (a b : Bool) → (a ≡ true → b ≡ true) → (not a || b) ≡ true
nullable_from true b h = h refl
nullable_from false b h = refl

pub column_parts : (low high : Column) → column_at_most low high ≡ true → ColumnAtMost low high
column_parts low high e =
    let one = and_parts (kind_at_most low.kind high.kind && (not low.nullable || high.nullable)) (same_default low.default_rule high.default_rule) e in
    let two = and_parts (kind_at_most low.kind high.kind) (not low.nullable || high.nullable) one.0 in
    record { kind = two.0; nullable = nullable_by low.nullable high.nullable two.1; default_rule = default_exact low.default_rule high.default_rule one.1 }

pub column_from : (low high : Column) → ColumnAtMost low high → column_at_most low high ≡ true
column_from low high h =
    and_from (kind_at_most low.kind high.kind && (not low.nullable || high.nullable)) (same_default low.default_rule high.default_rule)
    (and_from (kind_at_most low.kind high.kind) (not low.nullable || high.nullable) h.kind (nullable_from low.nullable high.nullable h.nullable))
    (ap (same_default low.default_rule) (sym h.default_rule) ∙ same_default_itself low.default_rule)

pub column_third : (a b c : Column) → ColumnAtMost a b → ColumnAtMost b c → ColumnAtMost a c
column_third a b c low high = record {
  kind = kind_transitive a.kind b.kind c.kind low.kind high.kind;
  nullable = λ e. high.nullable (low.nullable e);
  default_rule = low.default_rule ∙ high.default_rule;
}

-- the other schema's column of a name, with what is asked of it
pub record Kept (columns : List Column) (low : Column) : Type 0 where
  pub high : Column
  pub at : column_at columns low.name ≡ Some high
  pub holds : ColumnAtMost low high

pub record AtMost (low high : Layout) : Type 0 where
  pub primary : low.primary ≡ high.primary
  pub columns : (c : Column) → IsIn c low.columns → Kept high.columns c
  pub filled : (c : Column) → IsIn c high.columns → has_column low.columns c.name ≡ false → is_some (fill_for_missing c) ≡ true
  pub uniques : (k : UniqueKey) → IsIn k high.uniques → IsIn k low.uniques

kept_by : (columns : List Column) (low : Column) (o : Option Column) → column_at columns low.name ≡ o → is_kept low o ≡ true → Kept columns low
kept_by columns low None at e = absurd (false≢true e)
kept_by columns low (Some high) at e = record { high = high; at = at; holds = column_parts low high e }

filled_by : (a b : Bool) → (a || b) ≡ true → a ≡ false → b ≡ true
filled_by true b e h = absurd (true≢false h)
filled_by false b e h = e

filled_from : (a b : Bool) → (a ≡ false → b ≡ true) → (a || b) ≡ true
filled_from true b h = refl
filled_from false b h = h refl

pub has_unique : (keys : List UniqueKey) (k : UniqueKey) → list_any (same_unique k) keys ≡ true → IsIn k keys
has_unique keys k e = let found = any_from (same_unique k) keys e in subst (λ j. IsIn j keys) (sym (unique_exact k found.0 found.2)) found.1

pub at_most_parts : (low high : Layout) → at_most low high ≡ true → AtMost low high
at_most_parts low high e =
    let one = and_parts (same_names low.primary high.primary && list_all (λ c. is_kept c (column_at high.columns c.name)) low.columns && list_all (λ c. has_column low.columns c.name || is_some (fill_for_missing c)) high.columns) (list_all (λ k. list_any (same_unique k) low.uniques) high.uniques) e in
    let two = and_parts (same_names low.primary high.primary && list_all (λ c. is_kept c (column_at high.columns c.name)) low.columns) (list_all (λ c. has_column low.columns c.name || is_some (fill_for_missing c)) high.columns) one.0 in
    let three = and_parts (same_names low.primary high.primary) (list_all (λ c. is_kept c (column_at high.columns c.name)) low.columns) two.0 in
    record {
      primary = names_exact low.primary high.primary three.0;
      columns = λ c i. kept_by high.columns c (column_at high.columns c.name) refl (all_of (λ d. is_kept d (column_at high.columns d.name)) low.columns c three.1 i);
      filled = λ c i h. filled_by (has_column low.columns c.name) (is_some (fill_for_missing c)) (all_of (λ d. has_column low.columns d.name || is_some (fill_for_missing d)) high.columns c two.1 i) h;
      uniques = λ k i. has_unique low.uniques k (all_of (λ j. list_any (same_unique j) low.uniques) high.uniques k one.1 i);
    }

pub at_most_from : (low high : Layout) → AtMost low high → at_most low high ≡ true
at_most_from low high h =
    and_from _ _
    (and_from _ _
    (and_from _ _ (ap (same_names low.primary) (sym h.primary) ∙ names_itself low.primary)
    (all_from (λ c. is_kept c (column_at high.columns c.name)) low.columns (λ c i. let k = h.columns c i in ap (is_kept c) k.at ∙ column_from c k.high k.holds)))
    (all_from (λ c. has_column low.columns c.name || is_some (fill_for_missing c)) high.columns (λ c i. filled_from (has_column low.columns c.name) (is_some (fill_for_missing c)) (h.filled c i))))
    (all_from (λ k. list_any (same_unique k) low.uniques) high.uniques (λ k i. any_of (same_unique k) low.uniques k (h.uniques k i) (same_unique_itself k)))

pub has_name : (columns : List Column) (c : Column) → IsIn c columns → has_column columns c.name ≡ true
has_name columns c i = any_of (λ d. same_name d.name c.name) columns c i (same_itself c.name)

-- a schema's columns have names of their own
pub columns_apart : (l : Layout) → is_formed l ≡ true → AreApart column_name l.columns
columns_apart l formed = let f = formed_parts l formed in apart_from column_name l.columns f.columns_apart

pub at_most_reflexive : (s : Layout) → IsTrue (is_formed s) → at_most s s ≡ true
at_most_reflexive s formed = at_most_from s s (record {
  primary = refl;
  columns = λ c i. record { high = c; at = finds_each s.columns c (columns_apart s formed) i; holds = record { kind = kind_reflexive c.kind; nullable = λ e. e; default_rule = refl } };
  filled = λ c i e. absurd (both_ways (has_column s.columns c.name) e (has_name s.columns c i));
  uniques = λ k i. i;
})

-- what a column fills for those that lack it, one above it does too
fill_above : (rule : DefaultRule) (a b : Bool) → (a ≡ true → b ≡ true) → is_some (missing_by rule a) ≡ true → is_some (missing_by rule b) ≡ true
fill_above (default.Const value) a b h e = refl
fill_above default.Nothing true b h e = ap (λ x. is_some (missing_by default.Nothing x)) (h refl)
fill_above default.Nothing false b h e = absurd (false≢true e)
fill_above default.Now a b h e = absurd (false≢true e)

pub filled_above : (low high : Column) → ColumnAtMost low high → is_some (fill_for_missing low) ≡ true → is_some (fill_for_missing high) ≡ true
filled_above low high h e = ap (λ r. is_some (missing_by r high.nullable)) (sym h.default_rule) ∙ fill_above low.default_rule low.nullable high.nullable h.nullable e

pub lacks_name : (columns : List Column) (n : Text) → ((c : Column) → IsIn c columns → c.name ≡ n → ⊥) → has_column columns n ≡ false
lacks_name columns n h = none_from (λ c. same_name c.name n) columns (λ c i. not_same c.name n (h c i))

pub at_most_transitive : (low mid high : Layout) → IsTrue (is_formed high) → at_most low mid ≡ true → at_most mid high ≡ true → at_most low high ≡ true
at_most_transitive low mid high formed e f = at_most_from low high (record {
  primary = a.primary ∙ b.primary;
  columns = column;
  filled = filled;
  uniques = λ k i. a.uniques k (b.uniques k i);
}) where
  a : AtMost low mid
  a = at_most_parts low mid e

  b : AtMost mid high
  b = at_most_parts mid high f

  column : (c : Column) → IsIn c low.columns → Kept high.columns c
  column c i =
      let k = a.columns c i in
      let found = found_column mid.columns c.name k.high k.at in
      let l = b.columns k.high found.0 in
      record { high = l.high; at = ap (column_at high.columns) (sym found.1) ∙ l.at; holds = column_third c k.high l.high k.holds l.holds }

  filled : (c : Column) → IsIn c high.columns → has_column low.columns c.name ≡ false → is_some (fill_for_missing c) ≡ true
  filled c i lacking = by (cases_Bool (has_column mid.columns c.name)) where
    by : (has_column mid.columns c.name ≡ true) ⊎ (has_column mid.columns c.name ≡ false) → is_some (fill_for_missing c) ≡ true
    by (inr none) = b.filled c i none
    by (inl some) =
        let d = any_from (λ x. same_name x.name c.name) mid.columns some in
        let named : d.0.name ≡ c.name = same_is_equal d.0.name c.name d.2 in
        let l = b.columns d.0 d.1 in
        let one : Some l.high ≡ Some c = sym l.at ∙ ap (column_at high.columns) named ∙ finds_each high.columns c (columns_apart high formed) i in
        let same : l.high ≡ c = cc one in
        let low_lacks : has_column low.columns d.0.name ≡ false = ap (has_column low.columns) named ∙ lacking in
        ap (λ (x : Column). is_some (fill_for_missing x)) (sym same) ∙ filled_above d.0 l.high l.holds (a.filled d.0 d.1 low_lacks)

-- Lists in order of names.

-- each name comes before all later ones
abbrev pub RisesBy : {A : Type 0} → (A → Text) → List A → Type 0
RisesBy name [] = Unit {0}
RisesBy {A} name (x ∷ xs) = ((y : A) → IsIn y xs → name_cmp (name x) (name y) ≡ Less) × RisesBy name xs

less_or_not : (o : Ordering) → (is_lt o ≡ true → o ≡ Less) × (is_lt o ≡ false → (o ≡ Equal → ⊥) → ordering_reverse o ≡ Less)
less_or_not Less = (λ e. refl, λ e h. absurd (true≢false e))
less_or_not Equal = (λ e. absurd (false≢true e), λ e h. absurd (h refl))
less_or_not Greater = (λ e. absurd (false≢true e), λ e h. refl)

rises_put : {A : Type 0} (name : A → Text) (x : A) (ys : List A) → ((y : A) → IsIn y ys → same_name (name x) (name y) ≡ false) → RisesBy name ys → RisesBy name (put_by name x ys)
rises_put name x [] other h = (λ y i. absurd i, tt)
rises_put {A} name x (y ∷ ys) other h = by (is_lt (name_cmp (name x) (name y))) refl (rises_put name x ys (λ z i. other z (inr i)) h.1) where
  before : is_lt (name_cmp (name x) (name y)) ≡ true → (z : A) → IsIn z (y ∷ ys) → name_cmp (name x) (name z) ≡ Less
  before e z (inl is) = ap (λ w. name_cmp (name x) (name w)) (sym is) ∙ (less_or_not (name_cmp (name x) (name y))).0 e
  before e z (inr i) = before_third (name x) (name y) (name z) ((less_or_not (name_cmp (name x) (name y))).0 e) (h.0 z i)

  behind : is_lt (name_cmp (name x) (name y)) ≡ false → (z : A) → IsIn z (x ∷ ys) → name_cmp (name y) (name z) ≡ Less
  behind e z (inl is) =
      ap (λ w. name_cmp (name y) (name w)) (sym is)
      ∙ nat_list_cmp_total.antisymm (name y) (name x)
      ∙ (less_or_not (name_cmp (name x) (name y))).1 e (λ tie. both_ways (same_name (name x) (name y)) (other y (inl refl)) (same_from (name x) (name y) (exact_bytes (name x) (name y) tie)))
  behind e z (inr i) = h.0 z i

  by : (b : Bool) → is_lt (name_cmp (name x) (name y)) ≡ b → RisesBy name (put_by name x ys) → RisesBy name (cond b (x ∷ y ∷ ys) (y ∷ put_by name x ys))
  by true e rest = (before e, h)
  by false e rest = (λ z i. behind e z (from_put name x ys z i), rest)

rises_ordered : {A : Type 0} (name : A → Text) (xs : List A) → AreApart name xs → RisesBy name (in_order_of name xs)
rises_ordered name [] h = tt
rises_ordered name (x ∷ xs) h = rises_put name x (in_order_of name xs) (λ y i. h.0 y (from_ordered name xs y i)) (rises_ordered name xs h.1)

-- two lists that rise and have the same members are one
rises_alike : {A : Type 0} (name : A → Text) (xs ys : List A) → RisesBy name xs → RisesBy name ys → ((z : A) → IsIn z xs → IsIn z ys) → ((z : A) → IsIn z ys → IsIn z xs) → xs ≡ ys
rises_alike name [] [] h k to back = refl
rises_alike name [] (y ∷ ys) h k to back = absurd (back y (inl refl))
rises_alike name (x ∷ xs) [] h k to back = absurd (to x (inl refl))
rises_alike {A} name (x ∷ xs) (y ∷ ys) h k to back = ap (λ z. z ∷ xs) first ∙ ap (λ l. y ∷ l) (rises_alike name xs ys h.1 k.1 tail_to tail_back) where
  meet : IsIn x (y ∷ ys) → IsIn y (x ∷ xs) → x ≡ y
  meet (inl is) j = sym is
  meet (inr i) (inl is) = is
  meet (inr i) (inr j) = absurd (not_both_before (name y) (name x) (k.0 x i) (h.0 y j))

  first : x ≡ y
  first = meet (to x (inl refl)) (back y (inl refl))

  tail_to : (z : A) → IsIn z xs → IsIn z ys
  tail_to z i = by (to z (inr i)) where
    by : IsIn z (y ∷ ys) → IsIn z ys
    by (inl is) = absurd (not_before_itself (name z) (ap (λ w. name_cmp (name w) (name z)) (sym (first ∙ is)) ∙ h.0 z i))
    by (inr j) = j

  tail_back : (z : A) → IsIn z ys → IsIn z xs
  tail_back z i = by (back z (inr i)) where
    by : IsIn z (x ∷ xs) → IsIn z xs
    by (inl is) = absurd (not_before_itself (name z) (ap (λ w. name_cmp (name w) (name z)) (sym (sym first ∙ is)) ∙ k.0 z i))
    by (inr j) = j

-- lists with names apart that have the same members are in one order
pub ordered_alike : {A : Type 0} (name : A → Text) (xs ys : List A) → AreApart name xs → AreApart name ys → ((z : A) → IsIn z xs → IsIn z ys) → ((z : A) → IsIn z ys → IsIn z xs) → in_order_of name xs ≡ in_order_of name ys
ordered_alike name xs ys h k to back =
    rises_alike name (in_order_of name xs) (in_order_of name ys) (rises_ordered name xs h) (rises_ordered name ys k)
    (λ z i. in_ordered name ys z (to z (from_ordered name xs z i))) (λ z i. in_ordered name xs z (back z (from_ordered name ys z i)))

itself_pointwise : {A : Type 0} (same : A → A → Bool) → ((x : A) → same x x ≡ true) → (xs : List A) → pointwise same xs xs ≡ true
itself_pointwise same h [] = refl
itself_pointwise same h (x ∷ xs) = and_from (same x x) (pointwise same xs xs) (h x) (itself_pointwise same h xs)

-- layouts with the same columns and keys, whose names are apart, are equal
pub equal_apart : (a b : Layout) → AreApart column_name a.columns → AreApart unique_name a.uniques → AreApart column_name b.columns → AreApart unique_name b.uniques → a.primary ≡ b.primary
    → ((c : Column) → IsIn c a.columns → IsIn c b.columns) → ((c : Column) → IsIn c b.columns → IsIn c a.columns) → ((k : UniqueKey) → IsIn k a.uniques → IsIn k b.uniques) → ((k : UniqueKey) → IsIn k b.uniques → IsIn k a.uniques)
    → schema_equal a b ≡ true
equal_apart a b a_columns a_keys b_columns b_keys primary to back keys_to keys_back =
    let columns = ordered_alike column_name a.columns b.columns a_columns b_columns to back in
    let uniques = ordered_alike unique_name a.uniques b.uniques a_keys b_keys keys_to keys_back in
    and_from _ _
    (and_from _ _
    (ap (pointwise same_column (columns_in_order a.columns)) (sym columns) ∙ itself_pointwise same_column same_column_itself (columns_in_order a.columns))
    (ap (same_names a.primary) (sym primary) ∙ names_itself a.primary))
    (ap (pointwise same_unique (uniques_in_order a.uniques)) (sym uniques) ∙ itself_pointwise same_unique same_unique_itself (uniques_in_order a.uniques))

-- schemas with the same columns and keys are equal
pub equal_from : (a b : Layout) → IsTrue (is_formed a) → IsTrue (is_formed b) → a.primary ≡ b.primary → ((c : Column) → IsIn c a.columns → IsIn c b.columns) → ((c : Column) → IsIn c b.columns → IsIn c a.columns)
    → ((k : UniqueKey) → IsIn k a.uniques → IsIn k b.uniques) → ((k : UniqueKey) → IsIn k b.uniques → IsIn k a.uniques) → schema_equal a b ≡ true
equal_from a b f g primary to back keys_to keys_back =
    let af = formed_parts a f in
    let bf = formed_parts b g in
    equal_apart a b (columns_apart a f) (apart_from unique_name a.uniques af.keys_apart) (columns_apart b g) (apart_from unique_name b.uniques bf.keys_apart) primary to back keys_to keys_back

bool_alike : (a b : Bool) → (a ≡ true → b ≡ true) → (b ≡ true → a ≡ true) → a ≡ b
bool_alike true b h k = sym (h refl)
bool_alike false true h k = k refl
bool_alike false false h k = refl

-- columns of which each is at most the other, with one name
columns_alike : (c d : Column) → c.name ≡ d.name → ColumnAtMost c d → ColumnAtMost d c → c ≡ d
columns_alike c d name low high =
    ap (λ n. record { name = n; kind = c.kind; nullable = c.nullable; default_rule = c.default_rule }) name
    ∙ ap (λ k. record { name = d.name; kind = k; nullable = c.nullable; default_rule = c.default_rule }) (kind_antisymmetric c.kind d.kind low.kind high.kind)
    ∙ ap (λ n. record { name = d.name; kind = d.kind; nullable = n; default_rule = c.default_rule }) (bool_alike c.nullable d.nullable low.nullable high.nullable)
    ∙ ap (λ r. record { name = d.name; kind = d.kind; nullable = d.nullable; default_rule = r }) low.default_rule

shared : (a b : Layout) → IsTrue (is_formed a) → AtMost a b → AtMost b a → (c : Column) → IsIn c a.columns → IsIn c b.columns
shared a b formed low high c i =
    let k = low.columns c i in
    let found = found_column b.columns c.name k.high k.at in
    let l = high.columns k.high found.0 in
    let one : Some l.high ≡ Some c = sym l.at ∙ ap (column_at a.columns) found.1 ∙ finds_each a.columns c (columns_apart a formed) i in
    let same : l.high ≡ c = cc one in
    let is : c ≡ k.high = columns_alike c k.high (sym found.1) k.holds (subst (ColumnAtMost k.high) same l.holds) in
    subst (λ d. IsIn d b.columns) (sym is) found.0

pub at_most_antisymmetric : (a b : Layout) → IsTrue (is_formed a) → IsTrue (is_formed b) → at_most a b ≡ true → at_most b a ≡ true → schema_equal a b ≡ true
at_most_antisymmetric a b f g low high =
    let l = at_most_parts a b low in
    let h = at_most_parts b a high in
    equal_from a b f g l.primary (shared a b f l h) (shared b a g h l) h.uniques l.uniques
