-- The columns of a join, and what it takes that there is one.
use Rattle.std.proofs.Common.{◌≡◌, Bool, true, false, cond, List, [], ◌∷◌, ◌++◌, Option, Some, None, refl, sym, ap, subst, ◌∙◌, inl, inr}
use Rattle.std.specs.Prelude.{◌⊎◌, not}
use Rattle.std.specs.List.{list_any, list_all, filter_map, flat_map, cons_option}
use Rattle.std.proofs.lemmas.Bool.{true≢false, not-false}
use Rattle.std.proofs.lemmas.List.Elements.{filter-append}
use Rattle.dm_list.specs.Answer.{first_refusal}
use Rattle.dm_schema.specs.declared.column.Kind.{Kind}
use Rattle.dm_schema.specs.declared.column.Column.{Column}
use Rattle.dm_schema.specs.Layout.{Layout}
use Rattle.dm_schema.specs.Names.{Text, name_cmp, same_name, column_at, column_names}
use Rattle.dm_schema.specs.KindOrder.{kind_at_most, comparable, same_family}
use Rattle.dm_join.specs.declared.no_join.JoinCause.TheVariants as cause
use Rattle.dm_join.specs.declared.no_join.NoJoin.{NoJoin}
use Rattle.dm_join.specs.declared.no_join.NoJoin.TheVariants.{At}
use Rattle.dm_join.specs.AtMost.{same_names, same_default}
use Rattle.dm_join.specs.Join.{columns_under, greatest, joined_column, each_two, lacks_fill, refusals_at, all_names, first_primary, first_name, refusals_of, joined_layout}
use Rattle.dm_join.specs.Groups.{columns_of, columns_named, joined_of}
use Rattle.dm_join.proofs.Lists.{IsIn, all_of, in_map, in_flat, in_filter_map, from_filter_map}
use Rattle.dm_join.proofs.NameLemmas.{same_is_equal, same_from, not_same}
use Rattle.dm_join.proofs.NameSetLemmas.{IsRising, rising_set, in_set, not_before_itself}
use Rattle.dm_join.proofs.Orders.{AreApart, column_name, found_column, some_found}
use Rattle.dm_join.proofs.Exact.{names_exact}

pub from_under : (schemas : List Layout) (name : Text) (c : Column) → IsIn c (columns_under schemas name) → (s : Layout) × IsIn s schemas × (column_at s.columns name ≡ Some c)
from_under schemas name c i = from_filter_map (λ s. column_at s.columns name) schemas c i

pub in_under : (schemas : List Layout) (name : Text) (s : Layout) (c : Column) → IsIn s schemas → column_at s.columns name ≡ Some c → IsIn c (columns_under schemas name)
in_under schemas name s c i e = in_filter_map (λ s. column_at s.columns name) schemas s c i e

pub under_named : (schemas : List Layout) (name : Text) (c : Column) → IsIn c (columns_under schemas name) → c.name ≡ name
under_named schemas name c i = let from = from_under schemas name c i in (found_column from.0.columns name c from.2).1

-- where no two columns of a schema have one name, those of a name are the one that it finds
none_of_name : (columns : List Column) (name : Text) → ((d : Column) → IsIn d columns → same_name d.name name ≡ false) → columns_named columns name ≡ []
none_of_name [] name h = refl
none_of_name (c ∷ cs) name h = ap (λ b. cond b (c ∷ columns_named cs name) (columns_named cs name)) (h c (inl refl)) ∙ none_of_name cs name (λ d i. h d (inr i))

one_of_name : (columns : List Column) (name : Text) → AreApart column_name columns → columns_named columns name ≡ cons_option (column_at columns name) []
one_of_name [] name apart = refl
one_of_name (c ∷ cs) name apart = by (same_name c.name name) refl (one_of_name cs name apart.1) where
  by : (b : Bool) → same_name c.name name ≡ b → columns_named cs name ≡ cons_option (column_at cs name) [] → cond b (c ∷ columns_named cs name) (columns_named cs name) ≡ cons_option (cond b (Some c) (column_at cs name)) []
  by true same rest = ap (λ l. c ∷ l) (none_of_name cs name (λ d i. not_same d.name name (λ e. true≢false (sym (same_from c.name d.name (same_is_equal c.name name same ∙ sym e)) ∙ apart.0 d i))))
  by false other rest = rest

before_rest : (o : Option Column) (rest : List Column) → cons_option o [] ++ rest ≡ cons_option o rest
before_rest None rest = refl
before_rest (Some c) rest = refl

-- the columns of a name in the list of all are those that the schemas have under it
pub named_is_under : (schemas : List Layout) (name : Text) → ((s : Layout) → IsIn s schemas → AreApart column_name s.columns) → columns_named (columns_of schemas) name ≡ columns_under schemas name
named_is_under [] name apart = refl
named_is_under (s ∷ ss) name apart =
    filter-append (λ c. same_name c.name name) s.columns (columns_of ss)
    ∙ ap (λ l. l ++ columns_named (columns_of ss) name) (one_of_name s.columns name (apart s (inl refl)))
    ∙ before_rest (column_at s.columns name) (columns_named (columns_of ss) name)
    ∙ ap (cons_option (column_at s.columns name)) (named_is_under ss name (λ t i. apart t (inr i)))

-- what a joined column has of the columns that it joins
pub record JoinsColumns (columns : List Column) (joined : Column) : Type 0 where
  pub first : Column
  pub first_in : IsIn first columns
  pub name : joined.name ≡ first.name
  pub default_rule : joined.default_rule ≡ first.default_rule
  pub greatest : Column
  pub greatest_in : IsIn greatest columns
  pub kind : joined.kind ≡ greatest.kind
  pub nullable : joined.nullable ≡ list_any (λ d. d.nullable) columns

-- the greater of two kinds that a step of `greatest` takes
unfoldable pub greater : Kind → Kind → Kind
greater top k = cond (kind_at_most top k) k top

pub greatest_step : (top : Kind) (c : Column) (cs : List Column) → greatest top (c ∷ cs) ≡ greatest (greater top c.kind) cs
unfolding greater
greatest_step top c cs = refl

greater_is_one : (top k : Kind) → (greater top k ≡ top) ⊎ (greater top k ≡ k)
unfolding greater
greater_is_one top k = by (kind_at_most top k) where
  by : (b : Bool) → (cond b k top ≡ top) ⊎ (cond b k top ≡ k)
  by true = inr refl
  by false = inl refl

greatest_is_one : (top : Kind) (cs : List Column) → (greatest top cs ≡ top) ⊎ ((e : Column) × IsIn e cs × (greatest top cs ≡ e.kind))
greatest_is_one top [] = inl refl
greatest_is_one top (c ∷ cs) = by (greatest_is_one (greater top c.kind) cs) (greater_is_one top c.kind) where
  by : (greatest (greater top c.kind) cs ≡ greater top c.kind) ⊎ ((e : Column) × IsIn e cs × (greatest (greater top c.kind) cs ≡ e.kind)) → (greater top c.kind ≡ top) ⊎ (greater top c.kind ≡ c.kind)
      → (greatest top (c ∷ cs) ≡ top) ⊎ ((e : Column) × IsIn e (c ∷ cs) × (greatest top (c ∷ cs) ≡ e.kind))
  by (inl same) (inl e) = inl (greatest_step top c cs ∙ same ∙ e)
  by (inl same) (inr e) = inr (c, inl refl, greatest_step top c cs ∙ same ∙ e)
  by (inr later) h = inr (later.0, inr later.1, greatest_step top c cs ∙ later.2)

pub joins_columns : (columns : List Column) (joined : Column) → joined_column columns ≡ Some joined → JoinsColumns columns joined
joins_columns [] joined e = absurd (cc e)
joins_columns (c ∷ cs) joined e = subst (JoinsColumns (c ∷ cs)) made (by (greatest_is_one c.kind cs)) where
  made : joined_of c cs ≡ joined
  made = cc e

  by : (greatest c.kind cs ≡ c.kind) ⊎ ((d : Column) × IsIn d cs × (greatest c.kind cs ≡ d.kind)) → JoinsColumns (c ∷ cs) (joined_of c cs)
  by (inl same) = record { first = c; first_in = inl refl; name = refl; default_rule = refl; greatest = c; greatest_in = inl refl; kind = same; nullable = refl }
  by (inr (d, i, same)) = record { first = c; first_in = inl refl; name = refl; default_rule = refl; greatest = d; greatest_in = inr i; kind = same; nullable = refl }

pub some_joined : (columns : List Column) (c : Column) → IsIn c columns → (joined : Column) × (joined_column columns ≡ Some joined)
some_joined [] c i = absurd i
some_joined (d ∷ ds) c i = (joined_of d ds, refl)

-- a joined column and the name that it joins
pub record Joined (schemas : List Layout) (c : Column) : Type 0 where
  pub there : IsIn c.name (all_names schemas)
  pub made : joined_column (columns_under schemas c.name) ≡ Some c
  pub parts : JoinsColumns (columns_under schemas c.name) c

pub joined_there : (schemas : List Layout) (c : Column) → IsIn c (joined_layout schemas).columns → Joined schemas c
joined_there schemas c i = by from.0 from.1 from.2 (named from.0 from.2) where
  from : (n : Text) × IsIn n (all_names schemas) × (joined_column (columns_under schemas n) ≡ Some c)
  from = from_filter_map (λ n. joined_column (columns_under schemas n)) (all_names schemas) c i

  named : (n : Text) → joined_column (columns_under schemas n) ≡ Some c → n ≡ c.name
  named n e = let parts = joins_columns (columns_under schemas n) c e in sym (parts.name ∙ under_named schemas n parts.first parts.first_in)

  by : (n : Text) → IsIn n (all_names schemas) → joined_column (columns_under schemas n) ≡ Some c → n ≡ c.name → Joined schemas c
  by n there e is =
      let made : joined_column (columns_under schemas c.name) ≡ Some c = subst (λ m. joined_column (columns_under schemas m) ≡ Some c) is e in
      record { there = subst (λ m. IsIn m (all_names schemas)) is there; made = made; parts = joins_columns (columns_under schemas c.name) c made }

-- the name of a schema's column is among all names
pub name_among : (schemas : List Layout) (s : Layout) (c : Column) → IsIn s schemas → IsIn c s.columns → IsIn c.name (all_names schemas)
name_among schemas s c i j = in_set (flat_map (λ t. column_names t.columns) schemas) c.name (in_flat (λ t. column_names t.columns) schemas s c.name i (in_map column_name s.columns c j))

-- each column of each schema has one of its name in the join
pub joined_has : (schemas : List Layout) (s : Layout) (c : Column) → IsIn s schemas → IsIn c s.columns → (joined : Column) × IsIn joined (joined_layout schemas).columns × (joined.name ≡ c.name)
joined_has schemas s c i j =
    let one = some_found s.columns c.name c j refl in
    let under = in_under schemas c.name s one.0 i one.1 in
    let made = some_joined (columns_under schemas c.name) one.0 under in
    let parts = joins_columns (columns_under schemas c.name) made.0 made.1 in (
      made.0,
      in_filter_map (λ n. joined_column (columns_under schemas n)) (all_names schemas) c.name made.0 (name_among schemas s c i j) made.1,
      parts.name ∙ under_named schemas c.name parts.first parts.first_in,
    )

rising_apart : (f : Text → Option Column) (names : List Text) → ((n : Text) (c : Column) → f n ≡ Some c → c.name ≡ n) → IsRising names → AreApart column_name (filter_map f names)
rising_apart f [] named rising = tt
rising_apart f (n ∷ ns) named rising = by (f n) refl (rising_apart f ns named rising.1) where
  by : (o : Option Column) → f n ≡ o → AreApart column_name (filter_map f ns) → AreApart column_name (cons_option o (filter_map f ns))
  by None e rest = rest
  by (Some c) e rest = (other, rest) where
    other : (d : Column) → IsIn d (filter_map f ns) → same_name c.name d.name ≡ false
    other d i =
        let from = from_filter_map f ns d i in
        not_same c.name d.name (λ same. not_before_itself n (ap (name_cmp n) (sym (named n c e) ∙ same ∙ named from.0 d from.2) ∙ rising.0 from.0 from.1))

-- no two columns of a join have one name
pub joined_apart : (schemas : List Layout) → AreApart column_name (joined_layout schemas).columns
joined_apart schemas =
    rising_apart (λ n. joined_column (columns_under schemas n)) (all_names schemas) named (rising_set (flat_map (λ s. column_names s.columns) schemas)) where
      named : (n : Text) (c : Column) → joined_column (columns_under schemas n) ≡ Some c → c.name ≡ n
      named n c e = let parts = joins_columns (columns_under schemas n) c e in parts.name ∙ under_named schemas n parts.first parts.first_in

pub none_refused : {E : Type 0} (rs : List (Bool × E)) (r : Bool × E) → first_refusal rs ≡ None → IsIn r rs → r.0 ≡ false
none_refused [] r e i = absurd i
none_refused {E} (q ∷ qs) r e i = by q.0 refl e i (none_refused qs r) where
  by : (b : Bool) → q.0 ≡ b → cond b (Some q.1) (first_refusal qs) ≡ None → IsIn r (q ∷ qs) → (first_refusal qs ≡ None → IsIn r qs → r.0 ≡ false) → r.0 ≡ false
  by true is e i rest = absurd (cc e)
  by false is e (inl same) rest = ap (λ (p : Bool × E). p.0) (sym same) ∙ is
  by false is e (inr j) rest = rest e j

-- nothing speaks against a join at a name
pub record NameFine (schemas : List Layout) (columns : List Column) : Type 0 where
  pub families : (a b : Column) → IsIn a columns → IsIn b columns → same_family a.kind b.kind ≡ true
  pub kinds : (a b : Column) → IsIn a columns → IsIn b columns → comparable a.kind b.kind ≡ true
  pub defaults : (a b : Column) → IsIn a columns → IsIn b columns → same_default a.default_rule b.default_rule ≡ true
  pub filled : lacks_fill schemas columns (joined_column columns) ≡ false

each_of : (test : Column → Column → Bool) (columns : List Column) → not (each_two test columns) ≡ false → (a b : Column) → IsIn a columns → IsIn b columns → test a b ≡ true
each_of test columns e a b i j = all_of (test a) columns b (all_of (λ x. list_all (test x) columns) columns a (not-false _ e) i) j

-- where no refusal comes
pub fine_at : (schemas : List Layout) → first_refusal (refusals_of schemas) ≡ None → (name : Text) → IsIn name (all_names schemas) → NameFine schemas (columns_under schemas name)
fine_at schemas none name i = record {
  families = each_of (λ a b. same_family a.kind b.kind) columns (at _ (inl refl));
  kinds = each_of (λ a b. comparable a.kind b.kind) columns (at _ (inr (inl refl)));
  defaults = each_of (λ a b. same_default a.default_rule b.default_rule) columns (at _ (inr (inr (inl refl))));
  filled = at _ (inr (inr (inr (inl refl))));
} where
  columns : List Column
  columns = columns_under schemas name

  at : (r : Bool × NoJoin) → IsIn r (refusals_at schemas name columns) → r.0 ≡ false
  at r j = none_refused (refusals_of schemas) r none (inr (in_flat (λ n. refusals_at schemas n (columns_under schemas n)) (all_names schemas) name r i j))

pub primary_at : (schemas : List Layout) (s : Layout) → first_refusal (refusals_of schemas) ≡ None → IsIn s schemas → first_primary schemas ≡ s.primary
primary_at schemas s none i =
    names_exact (first_primary schemas) s.primary
    (all_of (λ t. same_names (first_primary schemas) t.primary) schemas s
    (not-false _ (none_refused (refusals_of schemas) (not (list_all (λ t. same_names (first_primary schemas) t.primary) schemas), At (first_of schemas) cause.Primary) none (inl refl))) i) where
      first_of : List Layout → Text
      first_of ss = first_name (first_primary ss)
