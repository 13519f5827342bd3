-- Where names are an order of columns, each column's name is among them, and no two columns have one name.
use Rattle.std.proofs.Common.{◌≡◌, ◌==◌, ◌⊎◌, inl, inr, suc, ◌≤◌, Bool, true, false, not, ◌&&◌, ◌||◌, List, [], ◌∷◌, length, refl, sym, ap, ◌∙◌, subst, arith}
use Rattle.std.specs.List.{AllByRecursion, IsDistinct, list_any}
use Rattle.std.specs.Set.{distinct_count}
use Rattle.std.specs.Cmp.Lexicographic.{same_text}
use Rattle.std.proofs.lemmas.Bool.{and_parts, or_cases, or_parts, not-true, eqb-true}
use Rattle.std.proofs.lemmas.Cmp.{nat_list_eq_equiv}
use Rattle.std.proofs.lemmas.Map.Keys.{IsDistinct-cons}
use Rattle.std.proofs.lemmas.Map.Made.{length-le_from_is_member, length-from_keys, IsDistinct-from_count}
use Rattle.dm_schema.specs.declared.column.Column.{Column}
use Rattle.dm_schema.specs.Names.{Text, same_name, column_names, has_column}
use Rattle.dm_schema.specs.Schemas.{all_columns, names_repeat}
use Rattle.dm_dump.specs.Orders.{is_order}

all_differ : (name : Text) (names : List Text) → list_any (same_name name) names ≡ false → AllByRecursion (λ n. same_name name n ≡ false) names
all_differ name [] none = tt
all_differ name (n ∷ ns) none =
    let parts = or_parts (same_name name n) (list_any (same_name name) ns) none in
    (parts.0, all_differ name ns parts.1)

distinct : (names : List Text) → names_repeat names ≡ false → IsDistinct same_name names
unfolding IsDistinct
distinct [] apart = tt
distinct (n ∷ ns) apart =
    let parts = or_parts (list_any (same_name n) ns) (names_repeat ns) apart in
    (all_differ n ns parts.0, distinct ns parts.1)

-- a name that is the same as one that passes passes
passes_too : (test : Text → Bool) (a b : Text) → same_name a b ≡ true → test b ≡ true → test a ≡ true
passes_too test a b same passes = subst (λ (n : Text). test n ≡ true) (sym (same_text a b (sym same))) passes

named : (columns : List Column) (name : Text) → list_any (same_name name) (column_names columns) ≡ has_column columns name
named [] name = refl
named (c ∷ cs) name = ap (λ (b : Bool). b || list_any (same_name name) (column_names cs)) (nat_list_eq_equiv.symm name c.name) ∙ ap (λ (b : Bool). same_name c.name name || b) (named cs name)

-- a name of an order is a column's
among : (columns : List Column) (order : List Text) (name : Text) → all_columns columns order ≡ true → list_any (same_name name) order ≡ true → has_column columns name ≡ true
among columns [] name all found = absurd cc
among columns (n ∷ ns) name all found = by (or_cases (same_name name n) (list_any (same_name name) ns) found) (among columns ns name parts.1) where
  parts : (has_column columns n ≡ true) × (all_columns columns ns ≡ true)
  parts = and_parts (has_column columns n) (all_columns columns ns) all

  by : (same_name name n ≡ true) ⊎ (list_any (same_name name) ns ≡ true) → (list_any (same_name name) ns ≡ true → has_column columns name ≡ true) → has_column columns name ≡ true
  by (inl same) behind = passes_too (has_column columns) name n same parts.0
  by (inr found) behind = behind found

length_of_names : (columns : List Column) → length (column_names columns) ≡ length columns
length_of_names [] = refl
length_of_names (c ∷ cs) = ap suc (length_of_names cs)

-- what an order of columns is
record IsOrder (columns : List Column) (order : List Text) : Type 0 where
  pub long : length order ≡ length columns
  pub all : all_columns columns order ≡ true
  pub apart : IsDistinct same_name order

order_is : (columns : List Column) (order : List Text) → is_order columns order ≡ true → IsOrder columns order
order_is columns order is =
    let parts = and_parts (length order == length columns && all_columns columns order) (not (names_repeat order)) is in
    let sides = and_parts (length order == length columns) (all_columns columns order) parts.0 in
    record { long = eqb-true (length order) (length columns) sides.0; all = sides.1; apart = distinct order (not-true (names_repeat order) parts.1) }

-- the name of each column stands in an order: with one more name it would be longer than the columns
pub stands_in : (columns : List Column) (order : List Text) (name : Text) → is_order columns order ≡ true → has_column columns name ≡ true → list_any (same_name name) order ≡ true
stands_in columns order name ordered has = by (list_any (same_name name) order) refl where
  is : IsOrder columns order
  is = order_is columns order ordered

  inside : (q : Text) → (same_name q name ≡ true) ⊎ (list_any (same_name q) order ≡ true) → list_any (same_name q) (column_names columns) ≡ true
  inside q (inl same) = named columns q ∙ passes_too (has_column columns) q name same has
  inside q (inr found) = named columns q ∙ among columns order q is.all found

  by : (b : Bool) → list_any (same_name name) order ≡ b → b ≡ true
  by true found = refl
  by false lacks =
      let apart : IsDistinct same_name (name ∷ order) = IsDistinct-cons same_name name order (all_differ name order lacks) is.apart in
      let fewer : suc (length order) ≤ length (column_names columns) =
      length-le_from_is_member nat_list_eq_equiv (name ∷ order) (column_names columns) apart (λ q found. inside q (or_cases (same_name q name) (list_any (same_name q) order) found)) in
      absurd (omega (arith, fewer, length_of_names columns, is.long))

each_way : (a b : Bool) → (a ≡ true → b ≡ true) → (b ≡ true → a ≡ true) → a ≡ b
each_way true b to from = sym (to refl)
each_way false true to from = from refl
each_way false false to from = refl

-- columns that have an order have no name twice
pub names_apart : (columns : List Column) (order : List Text) → is_order columns order ≡ true → IsDistinct same_name (column_names columns)
names_apart columns order ordered =
    let is = order_is columns order ordered in
    let names = column_names columns in
    let same : (q : Text) → list_any (same_name q) order ≡ list_any (same_name q) names = λ q.
    each_way (list_any (same_name q) order) (list_any (same_name q) names) (λ found. named columns q ∙ among columns order q is.all found)
    (λ found. stands_in columns order q ordered (sym (named columns q) ∙ found)) in
    let count : length order ≡ distinct_count same_name names = length-from_keys nat_list_eq_equiv order names is.apart same in
    IsDistinct-from_count nat_list_eq_equiv names (sym count ∙ is.long ∙ sym (length_of_names columns))
