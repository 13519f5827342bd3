-- Laws of the join: it is the least schema that each of the joined ones is at most; and which columns it has, and why.
use Rattle.std.proofs.Common.{◌≡◌, suc, ◌<◌, ◌≤◌, Bool, true, false, List, [], ◌∷◌, length, Option, Some, None, Ok, refl, sym, ap, subst, ◌∙◌, arith, inl, inr}
use Rattle.std.specs.Prelude.{◌&&◌, is_some, is_none, nat_lt, IsTrue}
use Rattle.std.specs.List.{list_any, list_all, filter, cons_option}
use Rattle.std.proofs.lemmas.Bool.{false≢true, true≢false, both_ways, lt-ltb}
use Rattle.dm_list.specs.Answer.{first_refusal}
use Rattle.dm_value.specs.declared.value.Value.{Value}
use Rattle.dm_schema.specs.declared.column.Column.{Column}
use Rattle.dm_schema.specs.declared.column.UniqueKey.{UniqueKey}
use Rattle.dm_schema.specs.Layout.{Layout}
use Rattle.dm_schema.specs.Names.{Text, same_name, column_at, has_column}
use Rattle.dm_schema.specs.KindOrder.{kind_at_most}
use Rattle.dm_schema.specs.Fill.{fill_for_missing}
use Rattle.dm_schema.specs.Schemas.{same_unique}
use Rattle.dm_join.specs.AtMost.{at_most}
use Rattle.dm_join.specs.Join.{columns_under, greatest, joined_column, lacks_fill, common_uniques, refusals_of, joined_layout, join}
use Rattle.dm_join.specs.Groups.{are_formed, joined_of}
use Rattle.dm_join.proofs.Lists.{IsIn, all_of, all_from, any_of, any_from, in_filter, from_filter}
use Rattle.dm_join.proofs.NameLemmas.{same_is_equal, same_from}
use Rattle.dm_join.proofs.Orders.{AreApart, column_name, found_column, finds_each, in_ordered, from_ordered, apart_from}
use Rattle.dm_join.proofs.Exact.{default_exact}
use Rattle.dm_join.proofs.Formed.{Formed}
use Rattle.dm_join.proofs.JoinColumns.{from_under, in_under, under_named, Joined, joined_there, joined_has, joined_apart, NameFine, fine_at, primary_at}
use Rattle.dm_join.proofs.JoinFormed.{formed_each, unique_name}
use Rattle.dm_join.proofs.JoinAnswers.{join_is, join_is_formed}
use Rattle.dm_join.proofs.KindLaws.{greatest_bounds, greatest_least}
use Rattle.dm_join.proofs.AtMostLaws.{ColumnAtMost, Kept, AtMost, at_most_parts, at_most_from, has_unique, lacks_name, same_unique_itself}

-- Which columns the join has, and why.

-- the join is a schema
pub joined_is_schema : (schemas : List Layout) (joined : Layout) → 0 < length schemas → IsTrue (are_formed schemas) → join schemas ≡ Ok joined → Formed joined
joined_is_schema = join_is_formed

-- a column of the join is what the columns of its name give
pub column_is_joined : (schemas : List Layout) (joined : Layout) (c : Column) → join schemas ≡ Ok joined → IsIn c joined.columns → joined_column (columns_under schemas c.name) ≡ Some c
column_is_joined schemas joined c is i = let r = join_is schemas joined is in (joined_there schemas c (subst (λ (l : Layout). IsIn c l.columns) (sym r.1) i)).made

-- the join has a name exactly where some schema has it
pub has_each_name : (schemas : List Layout) (joined s : Layout) (n : Text) → join schemas ≡ Ok joined → IsIn s schemas → has_column s.columns n ≡ true → has_column joined.columns n ≡ true
has_each_name schemas joined s n is i e =
    let r = join_is schemas joined is in
    let d = any_from (λ c. same_name c.name n) s.columns e in
    let c = joined_has schemas s d.0 i d.1 in
    any_of (λ x. same_name x.name n) joined.columns c.0 (subst (λ (l : Layout). IsIn c.0 l.columns) r.1 c.1) (same_from c.0.name n (c.2 ∙ same_is_equal d.0.name n d.2))

pub has_no_other_name : (schemas : List Layout) (joined : Layout) (n : Text) → join schemas ≡ Ok joined → has_column joined.columns n ≡ true → (s : Layout) × IsIn s schemas × (has_column s.columns n ≡ true)
has_no_other_name schemas joined n is e =
    let r = join_is schemas joined is in
    let c = any_from (λ x. same_name x.name n) joined.columns e in
    let j = joined_there schemas c.0 (subst (λ (l : Layout). IsIn c.0 l.columns) (sym r.1) c.1) in
    let from = from_under schemas c.0.name j.parts.first j.parts.first_in in
    let found = found_column from.0.columns c.0.name j.parts.first from.2 in
    (from.0, from.1, any_of (λ x. same_name x.name n) from.0.columns j.parts.first found.0 (same_from j.parts.first.name n (found.1 ∙ same_is_equal c.0.name n c.2)))

bounds : (schemas : List Layout) (columns : List Column) (joined d : Column) → NameFine schemas columns → joined_column columns ≡ Some joined → IsIn d columns → kind_at_most d.kind joined.kind ≡ true
bounds schemas [] joined d fine e i = absurd i
bounds schemas (c ∷ cs) joined d fine e i = subst (λ (x : Column). kind_at_most d.kind x.kind ≡ true) made (by i) where
  made : joined_of c cs ≡ joined
  made = cc e

  all : (kind_at_most c.kind (greatest c.kind cs) ≡ true) × ((x : Column) → IsIn x cs → kind_at_most x.kind (greatest c.kind cs) ≡ true)
  all = greatest_bounds c.kind cs (λ x j. fine.kinds c x (inl refl) (inr j)) (λ x y j k. fine.kinds x y (inr j) (inr k))

  by : IsIn d (c ∷ cs) → kind_at_most d.kind (greatest c.kind cs) ≡ true
  by (inl is) = ap (λ (x : Column). kind_at_most x.kind (greatest c.kind cs)) (sym is) ∙ all.0
  by (inr j) = all.1 d j

-- what is said of a column of the join and of the columns of its name
pub record WhyJoined (schemas : List Layout) (c : Column) : Type 0 where
  pub of_one : (d : Column) × IsIn d (columns_under schemas c.name) × (c.kind ≡ d.kind)
  pub at_least_each : (d : Column) → IsIn d (columns_under schemas c.name) → kind_at_most d.kind c.kind ≡ true
  pub nullable : c.nullable ≡ list_any (λ d. d.nullable) (columns_under schemas c.name)
  pub default_rule : (d : Column) → IsIn d (columns_under schemas c.name) → d.default_rule ≡ c.default_rule
  pub filled : length (columns_under schemas c.name) < length schemas → is_some (fill_for_missing c) ≡ true

filled_by : (o : Option Value) → is_none o ≡ false → is_some o ≡ true
filled_by None e = absurd (true≢false e)
filled_by (Some v) e = refl

and_rest : (a b : Bool) → (a && b) ≡ false → a ≡ true → b ≡ false
and_rest true b e h = e
and_rest false b e h = absurd (false≢true h)

why_by : (schemas : List Layout) (c : Column) → Joined schemas c → NameFine schemas (columns_under schemas c.name) → WhyJoined schemas c
why_by schemas c j fine = record {
  of_one = (j.parts.greatest, j.parts.greatest_in, j.parts.kind);
  at_least_each = λ d i. bounds schemas (columns_under schemas c.name) c d fine j.made i;
  nullable = j.parts.nullable;
  default_rule = λ d i. default_exact d.default_rule j.parts.first.default_rule (fine.defaults d j.parts.first i j.parts.first_in) ∙ sym j.parts.default_rule;
  filled = λ fewer. filled_by (fill_for_missing c)
      (and_rest (nat_lt (length (columns_under schemas c.name)) (length schemas)) (is_none (fill_for_missing c))
      (sym (ap (lacks_fill schemas (columns_under schemas c.name)) j.made) ∙ fine.filled) (lt-ltb (length (columns_under schemas c.name)) (length schemas) fewer));
}

-- The kind of a joined column is one of theirs and at least each; it is nullable where any is; its default is each
-- one's; and where some schema lacks it, it has a fill for missing.
pub why_joined : (schemas : List Layout) (joined : Layout) (c : Column) → join schemas ≡ Ok joined → IsIn c joined.columns → WhyJoined schemas c
why_joined schemas joined c is i =
    let r = join_is schemas joined is in
    let j = joined_there schemas c (subst (λ (l : Layout). IsIn c l.columns) (sym r.1) i) in
    why_by schemas c j (fine_at schemas r.0 c.name j.there)

-- The least upper bound.

fewer_or_same : (schemas : List Layout) (n : Text) → length (columns_under schemas n) ≤ length schemas
fewer_or_same [] n = omega arith
fewer_or_same (s ∷ ss) n = by (column_at s.columns n) (fewer_or_same ss n) where
  by : (o : Option Column) → length (columns_under ss n) ≤ length ss → length (cons_option o (columns_under ss n)) ≤ suc (length ss)
  by None h = omega arith
  by (Some c) h = omega arith

-- where a schema lacks a name, fewer columns than schemas have it
pub fewer : (schemas : List Layout) (s : Layout) (n : Text) → IsIn s schemas → column_at s.columns n ≡ None → length (columns_under schemas n) < length schemas
fewer [] s n i e = absurd i
fewer (t ∷ ts) s n (inl is) e =
    let none : column_at t.columns n ≡ None = ap (λ (l : Layout). column_at l.columns n) is ∙ e in
    let rest : length (columns_under ts n) ≤ length ts = fewer_or_same ts n in
    subst (λ o. length (cons_option o (columns_under ts n)) < suc (length ts)) (sym none) (omega arith)
fewer (t ∷ ts) s n (inr i) e = by (column_at t.columns n) (fewer ts s n i e) where
  by : (o : Option Column) → length (columns_under ts n) < length ts → length (cons_option o (columns_under ts n)) < suc (length ts)
  by None h = omega arith
  by (Some c) h = omega arith

lacks_column : (columns : List Column) (n : Text) → has_column columns n ≡ false → column_at columns n ≡ None
lacks_column columns n e = by (column_at columns n) refl where
  by : (o : Option Column) → column_at columns n ≡ o → o ≡ None
  by None h = refl
  by (Some c) h =
      let found = found_column columns n c h in
      absurd (both_ways (has_column columns n) e (any_of (λ d. same_name d.name n) columns c found.0 (same_from c.name n found.1)))

apart_in : (schemas : List Layout) (s : Layout) → are_formed schemas ≡ true → IsIn s schemas → AreApart column_name s.columns
apart_in schemas s formed i = let f = formed_each schemas s formed i in apart_from column_name s.columns f.columns_apart

bound_parts : (schemas : List Layout) (s : Layout) → are_formed schemas ≡ true → first_refusal (refusals_of schemas) ≡ None → IsIn s schemas → AtMost s (joined_layout schemas)
bound_parts schemas s formed none i = record {
  primary = sym (primary_at schemas s none i);
  columns = column;
  filled = filled;
  uniques = unique;
} where
  joined : Layout
  joined = joined_layout schemas

  why : (c : Column) → IsIn c joined.columns → WhyJoined schemas c
  why c j = let k = joined_there schemas c j in why_by schemas c k (fine_at schemas none c.name k.there)

  column : (c : Column) → IsIn c s.columns → Kept joined.columns c
  column c j =
      let high = joined_has schemas s c i j in
      let w = why high.0 high.1 in
      let under : IsIn c (columns_under schemas high.0.name) = in_under schemas high.0.name s c i (ap (column_at s.columns) high.2 ∙ finds_each s.columns c (apart_in schemas s formed i) j) in
      record {
        high = high.0;
        at = ap (column_at joined.columns) (sym high.2) ∙ finds_each joined.columns high.0 (joined_apart schemas) high.1;
        holds = record {
          kind = w.at_least_each c under;
          nullable = λ e. w.nullable ∙ any_of (λ d. d.nullable) (columns_under schemas high.0.name) c under e;
          default_rule = w.default_rule c under;
        };
      }

  filled : (c : Column) → IsIn c joined.columns → has_column s.columns c.name ≡ false → is_some (fill_for_missing c) ≡ true
  filled c j lacking = let w = why c j in w.filled (fewer schemas s c.name i (lacks_column s.columns c.name lacking))

  unique : (k : UniqueKey) → IsIn k joined.uniques → IsIn k s.uniques
  unique k j = common schemas i k j where
    common : (ss : List Layout) → IsIn s ss → (k : UniqueKey) → IsIn k (common_uniques ss) → IsIn k s.uniques
    common [] i k j = absurd i
    common (t ∷ ts) i k j =
        let f = from_filter (λ u. list_all (λ l. list_any (same_unique u) l.uniques) (t ∷ ts)) t.uniques k (from_ordered unique_name (filter (λ u. list_all (λ l. list_any (same_unique u) l.uniques) (t ∷ ts)) t.uniques) k j) in
        has_unique s.uniques k (all_of (λ l. list_any (same_unique k) l.uniques) (t ∷ ts) s f.1 i)

-- each schema is at most the join
pub join_bounds : (schemas : List Layout) (joined s : Layout) → IsTrue (are_formed schemas) → join schemas ≡ Ok joined → IsIn s schemas → at_most s joined ≡ true
join_bounds schemas joined s formed is i =
    let r = join_is schemas joined is in
    subst (λ l. at_most s l ≡ true) r.1 (at_most_from s (joined_layout schemas) (bound_parts schemas s formed r.0 i))

least_kind : (columns : List Column) (joined : Column) (high : Column) → joined_column columns ≡ Some joined → ((d : Column) → IsIn d columns → kind_at_most d.kind high.kind ≡ true) → kind_at_most joined.kind high.kind ≡ true
least_kind [] joined high e each = absurd (cc e)
least_kind (c ∷ cs) joined high e each =
    let made : joined_of c cs ≡ joined = cc e in
    subst (λ (x : Column). kind_at_most x.kind high.kind ≡ true) made (greatest_least c.kind high.kind cs (each c (inl refl)) (λ d i. each d (inr i)))

least_parts : (s : Layout) (ss : List Layout) (high : Layout) → are_formed (s ∷ ss) ≡ true → first_refusal (refusals_of (s ∷ ss)) ≡ None → ((t : Layout) → IsIn t (s ∷ ss) → AtMost t high) → AtMost (joined_layout (s ∷ ss)) high
least_parts s ss high formed none each = record {
  primary = first.primary;
  columns = column;
  filled = filled;
  uniques = unique;
} where
  schemas : List Layout
  schemas = s ∷ ss

  joined : Layout
  joined = joined_layout schemas

  first : AtMost s high
  first = each s (inl refl)

  column : (c : Column) → IsIn c joined.columns → Kept high.columns c
  column c i = record {
    high = top.high;
    at = ap (column_at high.columns) j.parts.name ∙ top.at;
    holds = record {
      kind = least_kind (columns_under schemas c.name) c top.high j.made (λ d k. (holds d k).kind);
      nullable = λ e. nullable_of (any_from (λ d. d.nullable) (columns_under schemas c.name) (sym j.parts.nullable ∙ e));
      default_rule = j.parts.default_rule ∙ top.holds.default_rule;
    };
  } where
    j : Joined schemas c
    j = joined_there schemas c i

    from : (d : Column) → IsIn d (columns_under schemas c.name) → Kept high.columns d
    from d k = let f = from_under schemas c.name d k in (each f.0 f.1).columns d (found_column f.0.columns c.name d f.2).0

    top : Kept high.columns j.parts.first
    top = from j.parts.first j.parts.first_in

    holds : (d : Column) → IsIn d (columns_under schemas c.name) → ColumnAtMost d top.high
    holds d k =
        let f = from d k in
        let named : d.name ≡ j.parts.first.name = under_named schemas c.name d k ∙ j.parts.name in
        let one : Some f.high ≡ Some top.high = sym f.at ∙ ap (column_at high.columns) named ∙ top.at in
        let same : f.high ≡ top.high = cc one in
        subst (ColumnAtMost d) same f.holds

    nullable_of : (d : Column) × IsIn d (columns_under schemas c.name) × (d.nullable ≡ true) → top.high.nullable ≡ true
    nullable_of (d, k, e) = (holds d k).nullable e

  filled : (c : Column) → IsIn c high.columns → has_column joined.columns c.name ≡ false → is_some (fill_for_missing c) ≡ true
  filled c i lacking =
      first.filled c i (lacks_name s.columns c.name (λ d k named.
      let l = joined_has schemas s d (inl refl) k in
      both_ways (has_column joined.columns c.name) lacking (any_of (λ x. same_name x.name c.name) joined.columns l.0 l.1 (same_from l.0.name c.name (l.2 ∙ named)))))

  unique : (k : UniqueKey) → IsIn k high.uniques → IsIn k joined.uniques
  unique k i =
      in_ordered unique_name (filter (λ u. list_all (λ l. list_any (same_unique u) l.uniques) schemas) s.uniques) k
      (in_filter (λ u. list_all (λ l. list_any (same_unique u) l.uniques) schemas) s.uniques k (first.uniques k i)
      (all_from (λ l. list_any (same_unique k) l.uniques) schemas (λ l j. any_of (same_unique k) l.uniques k ((each l j).uniques k i) (same_unique_itself k))))

-- and the join is at most each schema that all of them are at most
pub join_least : (schemas : List Layout) (joined high : Layout) → 0 < length schemas → IsTrue (are_formed schemas) → join schemas ≡ Ok joined → ((s : Layout) → IsIn s schemas → at_most s high ≡ true) → at_most joined high ≡ true
join_least [] joined high some formed is each = absurd (omega arith)
join_least (s ∷ ss) joined high some formed is each =
    let r = join_is (s ∷ ss) joined is in
    subst (λ l. at_most l high ≡ true) r.1 (at_most_from (joined_layout (s ∷ ss)) high (least_parts s ss high formed r.0 (λ t i. at_most_parts t high (each t i))))
