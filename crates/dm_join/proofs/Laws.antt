-- Laws of the join for those that look columns up by name, and for a list of which one schema is replaced by another.
use Rattle.std.proofs.Common.{◌≡◌, ℕ, zero, suc, ◌<◌, true, false, List, [], ◌∷◌, length, get_or, Option, Some, None, Ok, refl, sym, ap, subst, ◌∙◌, arith, inl, inr}
use Rattle.std.specs.Prelude.{◌⊎◌, ◌||◌, IsTrue, slice_set}
use Rattle.std.specs.List.{cons_option}
use Rattle.std.proofs.lemmas.Bool.{false≢true, or_left, or_right, or_cases, both_ways, false_from_ne_true}
use Rattle.dm_schema.specs.declared.column.Kind.{Kind}
use Rattle.dm_schema.specs.declared.column.Column.{Column}
use Rattle.dm_schema.specs.Layout.{Layout}
use Rattle.dm_schema.specs.Names.{Text, same_name, column_at, has_column}
use Rattle.dm_schema.specs.Schemas.{is_formed, schema_equal}
use Rattle.dm_schema.specs.KindOrder.{family_of, size_of, size_at_most, same_family, kind_at_most, comparable}
use Rattle.dm_join.specs.AtMost.{at_most}
use Rattle.dm_join.specs.Join.{columns_under, joined_column, all_names, joined_layout, join}
use Rattle.dm_join.specs.Groups.{are_formed}
use Rattle.dm_join.proofs.Lists.{IsIn, any_of, any_from, in_filter_map}
use Rattle.dm_join.proofs.NameLemmas.{same_is_equal, same_from}
use Rattle.dm_join.proofs.Orders.{found_column, some_found, finds_each}
use Rattle.dm_join.proofs.Formed.{formed_from}
use Rattle.dm_join.proofs.JoinColumns.{from_under, under_named, joins_columns, joined_there, joined_apart, name_among}
use Rattle.dm_join.proofs.JoinFormed.{formed_each}
use Rattle.dm_join.proofs.JoinAnswers.{join_is, join_is_formed}
use Rattle.dm_join.proofs.KindLaws.{below_cases, below_by_size, one_family, family_exact}
use Rattle.dm_join.proofs.AtMostLaws.{ColumnAtMost, at_most_parts, at_most_reflexive, at_most_transitive, at_most_antisymmetric}
use Rattle.dm_join.proofs.JoinLaws.{join_bounds, join_least}

-- Columns by name.

pub has_found : (columns : List Column) (name : Text) (c : Column) → column_at columns name ≡ Some c → has_column columns name ≡ true
has_found columns name c at =
    let found = found_column columns name c at in
    any_of (λ d. same_name d.name name) columns c found.0 (same_from c.name name found.1)

pub lacks_unfound : (columns : List Column) (name : Text) → column_at columns name ≡ None → has_column columns name ≡ false
lacks_unfound columns name none = false_from_ne_true (has_column columns name) (λ has.
    let some = any_from (λ d. same_name d.name name) columns has in
    let found = some_found columns name some.0 some.1 (same_is_equal some.0.name name some.2) in
    cc (sym none ∙ found.1))

pub found_there : (columns : List Column) (name : Text) → has_column columns name ≡ true → (c : Column) × (column_at columns name ≡ Some c)
found_there columns name has =
    let some = any_from (λ d. same_name d.name name) columns has in
    some_found columns name some.0 some.1 (same_is_equal some.0.name name some.2)

pub unfound_lacks : (columns : List Column) (name : Text) → has_column columns name ≡ false → column_at columns name ≡ None
unfound_lacks columns name lacks = by (column_at columns name) refl where
  by : (o : Option Column) → column_at columns name ≡ o → o ≡ None
  by None is = refl
  by (Some c) is = absurd (both_ways (has_column columns name) lacks (has_found columns name c is))

-- The joined column of a name.

joined_by_name : (schemas : List Layout) (name : Text) → column_at (joined_layout schemas).columns name ≡ joined_column (columns_under schemas name)
joined_by_name schemas name = by (joined_column (columns_under schemas name)) refl where
  by : (o : Option Column) → joined_column (columns_under schemas name) ≡ o → column_at (joined_layout schemas).columns name ≡ o
  by (Some c) made =
      let parts = joins_columns (columns_under schemas name) c made in
      let named : c.name ≡ name = parts.name ∙ under_named schemas name parts.first parts.first_in in
      let from = from_under schemas name parts.first parts.first_in in
      let found = found_column from.0.columns name parts.first from.2 in
      let among : IsIn name (all_names schemas) = subst (λ n. IsIn n (all_names schemas)) found.1 (name_among schemas from.0 parts.first from.1 found.0) in
      ap (column_at (joined_layout schemas).columns) (sym named)
      ∙ finds_each (joined_layout schemas).columns c (joined_apart schemas) (in_filter_map (λ n. joined_column (columns_under schemas n)) (all_names schemas) name c among made)
  by None none = at (column_at (joined_layout schemas).columns name) refl where
    at : (o : Option Column) → column_at (joined_layout schemas).columns name ≡ o → o ≡ None
    at None is = refl
    at (Some c) is =
        let found = found_column (joined_layout schemas).columns name c is in
        let made : joined_column (columns_under schemas name) ≡ Some c = subst (λ n. joined_column (columns_under schemas n) ≡ Some c) found.1 (joined_there schemas c found.0).made in
        absurd (cc (sym none ∙ made))

-- it joins the columns that the schemas have under the name
pub joined_at : (schemas : List Layout) (joined : Layout) (name : Text) → join schemas ≡ Ok joined → column_at joined.columns name ≡ joined_column (columns_under schemas name)
joined_at schemas joined name is = ap (λ (l : Layout). column_at l.columns name) (sym (join_is schemas joined is).1) ∙ joined_by_name schemas name

-- each column of a join is the one of its name
pub joined_found : (schemas : List Layout) (joined : Layout) (c : Column) → join schemas ≡ Ok joined → IsIn c joined.columns → column_at joined.columns c.name ≡ Some c
joined_found schemas joined c is i =
    let same = (join_is schemas joined is).1 in
    ap (λ (l : Layout). column_at l.columns c.name) (sym same)
    ∙ finds_each (joined_layout schemas).columns c (joined_apart schemas) (subst (λ (l : Layout). IsIn c l.columns) (sym same) i)

-- a schema of the list that has a column of the name
pub record HasFrom (schemas : List Layout) (name : Text) : Type 0 where
  pub schema : Layout
  pub there : IsIn schema schemas
  pub column : Column
  pub at : column_at schema.columns name ≡ Some column

-- some schema has each joined column
pub joined_from : (schemas : List Layout) (joined : Layout) (name : Text) (c : Column) → join schemas ≡ Ok joined → column_at joined.columns name ≡ Some c → HasFrom schemas name
joined_from schemas joined name c is at =
    let made : joined_column (columns_under schemas name) ≡ Some c = sym (joined_at schemas joined name is) ∙ at in
    let parts = joins_columns (columns_under schemas name) c made in
    let from = from_under schemas name parts.first parts.first_in in
    record { schema = from.0; there = from.1; column = parts.first; at = from.2 }

-- the joined column of a name, at least the column of one schema
pub record HasAbove (columns : List Column) (name : Text) (low : Column) : Type 0 where
  pub column : Column
  pub at : column_at columns name ≡ Some column
  pub holds : ColumnAtMost low column

-- each schema's column is at most the joined one of its name
pub joined_above : (schemas : List Layout) (joined s : Layout) (name : Text) (c : Column) → IsTrue (are_formed schemas) → join schemas ≡ Ok joined → IsIn s schemas → column_at s.columns name ≡ Some c → HasAbove joined.columns name c
joined_above schemas joined s name c formed is i at =
    let found = found_column s.columns name c at in
    let kept = (at_most_parts s joined (join_bounds schemas joined s formed is i)).columns c found.0 in
    record { column = kept.high; at = ap (column_at joined.columns) (sym found.1) ∙ kept.at; holds = kept.holds }

-- where the joined column of the name is known, it is the one that is above
pub column_above : (schemas : List Layout) (joined s : Layout) (name : Text) (c high : Column) → IsTrue (are_formed schemas) → join schemas ≡ Ok joined → IsIn s schemas
    → column_at s.columns name ≡ Some c → column_at joined.columns name ≡ Some high → ColumnAtMost c high
column_above schemas joined s name c high formed is i at there =
    let above = joined_above schemas joined s name c formed is i at in
    let two : Some above.column ≡ Some high = sym above.at ∙ there in
    let one : above.column ≡ high = cc two in
    subst (ColumnAtMost c) one above.holds

-- Kinds above one kind are comparable.

sizes_compare : (s t u : Option ℕ) → size_at_most s t ≡ true → size_at_most s u ≡ true → (size_at_most t u || size_at_most u t) ≡ true
sizes_compare None t u low high = absurd (false≢true low)
sizes_compare (Some m) None u low high = absurd (false≢true low)
sizes_compare (Some m) (Some n) None low high = absurd (false≢true high)
sizes_compare (Some m) (Some n) (Some o) low high = grind arith

families_meet : (a b c : Kind) → same_family a b ≡ true → same_family a c ≡ true → same_family b c ≡ true
families_meet a b c e f =
    let one = family_exact (family_of a) (family_of b) e in
    subst (λ g. one_family g (family_of c) ≡ true) one f

pub kinds_above_one : (a b c : Kind) → kind_at_most a b ≡ true → kind_at_most a c ≡ true → comparable b c ≡ true
kinds_above_one a b c low high = by (below_cases a b low) (below_cases a c high) where
  by : (a ≡ b) ⊎ ((same_family a b ≡ true) × (size_at_most (size_of a) (size_of b) ≡ true)) → (a ≡ c) ⊎ ((same_family a c ≡ true) × (size_at_most (size_of a) (size_of c) ≡ true)) → comparable b c ≡ true
  by (inl same) h = or_left (kind_at_most b c) (kind_at_most c b) (subst (λ k. kind_at_most k c ≡ true) same high)
  by (inr l) (inl same) = or_right (kind_at_most b c) (kind_at_most c b) (subst (λ k. kind_at_most k b ≡ true) same low)
  by (inr l) (inr h) = either (or_cases _ _ (sizes_compare (size_of a) (size_of b) (size_of c) l.1 h.1)) where
    either : (size_at_most (size_of b) (size_of c) ≡ true) ⊎ (size_at_most (size_of c) (size_of b) ≡ true) → comparable b c ≡ true
    either (inl below) = or_left (kind_at_most b c) (kind_at_most c b) (below_by_size b c (families_meet a b c l.0 h.0) below)
    either (inr above) = or_right (kind_at_most b c) (kind_at_most c b) (below_by_size c b (families_meet a c b h.0 l.0) above)

-- Joins of two lists.

-- where each schema of the one list is at most some of the other, so are the joins
pub joins_ordered : (lows highs : List Layout) (low high : Layout) → 0 < length lows → 0 < length highs → IsTrue (are_formed lows) → IsTrue (are_formed highs) → join lows ≡ Ok low → join highs ≡ Ok high
    → ((s : Layout) → IsIn s lows → (t : Layout) × IsIn t highs × (at_most s t ≡ true)) → at_most low high ≡ true
joins_ordered lows highs low high some_low some_high low_formed high_formed low_is high_is each = join_least lows low high some_low low_formed low_is below where
  below : (s : Layout) → IsIn s lows → at_most s high ≡ true
  below s i =
      let t = each s i in
      at_most_transitive s t.0 high (formed_from high (join_is_formed highs high some_high high_formed high_is)) t.2 (join_bounds highs high t.0 high_formed high_is t.1)

schema_formed : (schemas : List Layout) (s : Layout) → are_formed schemas ≡ true → IsIn s schemas → is_formed s ≡ true
schema_formed schemas s formed i = formed_from s (formed_each schemas s formed i)

-- the joins of the same schemas, in any order and however often, are equal
pub join_in_any_order : (one other : List Layout) (a b : Layout) → 0 < length one → 0 < length other → IsTrue (are_formed one) → IsTrue (are_formed other) → join one ≡ Ok a → join other ≡ Ok b
    → ((s : Layout) → IsIn s one → IsIn s other) → ((s : Layout) → IsIn s other → IsIn s one) → schema_equal a b ≡ true
join_in_any_order one other a b some_one some_other f g a_is b_is to back =
    at_most_antisymmetric a b (formed_from a (join_is_formed one a some_one f a_is)) (formed_from b (join_is_formed other b some_other g b_is))
    (joins_ordered one other a b some_one some_other f g a_is b_is (λ s i. (s, to s i, at_most_reflexive s (schema_formed one s f i))))
    (joins_ordered other one b a some_other some_one g f b_is a_is (λ s i. (s, back s i, at_most_reflexive s (schema_formed other s g i))))

-- One schema is replaced by another.

-- the new one is in the list
pub replaced_here : (schemas : List Layout) (member : ℕ) (s : Layout) → member < length schemas → IsIn s (slice_set schemas member s)
replaced_here [] member s lt = absurd (omega (arith, lt))
replaced_here (t ∷ ts) zero s lt = inl refl
replaced_here (t ∷ ts) (suc m) s lt = inr (replaced_here ts m s (omega (arith, lt)))

-- what is in the list is the new one, or was there
pub replaced_from : (schemas : List Layout) (member : ℕ) (s t : Layout) → IsIn t (slice_set schemas member s) → (s ≡ t) ⊎ IsIn t schemas
replaced_from [] member s t i = absurd i
replaced_from (u ∷ us) zero s t (inl is) = inl is
replaced_from (u ∷ us) zero s t (inr i) = inr (inr i)
replaced_from (u ∷ us) (suc m) s t (inl is) = inr (inl is)
replaced_from (u ∷ us) (suc m) s t (inr i) = by (replaced_from us m s t i) where
  by : (s ≡ t) ⊎ IsIn t us → (s ≡ t) ⊎ IsIn t (u ∷ us)
  by (inl is) = inl is
  by (inr j) = inr (inr j)

-- what was in the list is the old one, or stays
pub replaced_stays : (schemas : List Layout) (member : ℕ) (s t none : Layout) → IsIn t schemas → (get_or schemas member none ≡ t) ⊎ IsIn t (slice_set schemas member s)
replaced_stays [] member s t none i = absurd i
replaced_stays (u ∷ us) zero s t none (inl is) = inl is
replaced_stays (u ∷ us) zero s t none (inr i) = inr (inr i)
replaced_stays (u ∷ us) (suc m) s t none (inl is) = inr (inl is)
replaced_stays (u ∷ us) (suc m) s t none (inr i) = by (replaced_stays us m s t none i) where
  by : (get_or us m none ≡ t) ⊎ IsIn t (slice_set us m s) → (get_or us m none ≡ t) ⊎ IsIn t (u ∷ slice_set us m s)
  by (inl is) = inl is
  by (inr j) = inr (inr j)

under_replaced : (schemas : List Layout) (member : ℕ) (s none : Layout) (name : Text) → column_at (get_or schemas member none).columns name ≡ column_at s.columns name → columns_under (slice_set schemas member s) name ≡ columns_under schemas name
under_replaced [] member s none name same = refl
under_replaced (t ∷ ts) zero s none name same = ap (λ o. cons_option o (columns_under ts name)) (sym same)
under_replaced (t ∷ ts) (suc m) s none name same = ap (cons_option (column_at t.columns name)) (under_replaced ts m s none name same)

-- the joined column stays as it is under each name at which the new schema has what the old one had
pub replaced_elsewhere : (schemas : List Layout) (member : ℕ) (s none before after : Layout) (name : Text) → join schemas ≡ Ok before → join (slice_set schemas member s) ≡ Ok after
    → column_at (get_or schemas member none).columns name ≡ column_at s.columns name → column_at before.columns name ≡ column_at after.columns name
replaced_elsewhere schemas member s none before after name is now same =
    joined_at schemas before name is
    ∙ ap joined_column (sym (under_replaced schemas member s none name same))
    ∙ sym (joined_at (slice_set schemas member s) after name now)

-- where the new schema is at least the old one, so is the join
pub replaced_grows : (schemas : List Layout) (member : ℕ) (s none before after : Layout) → member < length schemas → IsTrue (are_formed schemas) → IsTrue (are_formed (slice_set schemas member s))
    → join schemas ≡ Ok before → join (slice_set schemas member s) ≡ Ok after → at_most (get_or schemas member none) s ≡ true → at_most before after ≡ true
replaced_grows schemas member s none before after lt formed formed_now is now low =
    joins_ordered schemas (slice_set schemas member s) before after (some_of schemas lt) (some_in (slice_set schemas member s) (replaced_here schemas member s lt)) formed formed_now is now each where
      some_of : (ss : List Layout) → member < length ss → 0 < length ss
      some_of ss h = omega (arith, h)

      some_in : (ss : List Layout) → IsIn s ss → 0 < length ss
      some_in [] i = absurd i
      some_in (t ∷ ts) i = omega arith

      each : (t : Layout) → IsIn t schemas → (u : Layout) × IsIn u (slice_set schemas member s) × (at_most t u ≡ true)
      each t i = by (replaced_stays schemas member s t none i) where
        by : (get_or schemas member none ≡ t) ⊎ IsIn t (slice_set schemas member s) → (u : Layout) × IsIn u (slice_set schemas member s) × (at_most t u ≡ true)
        by (inl old) = (s, replaced_here schemas member s lt, subst (λ l. at_most l s ≡ true) old low)
        by (inr stays) = (t, stays, at_most_reflexive t (schema_formed schemas t formed i))
