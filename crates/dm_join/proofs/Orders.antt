-- Things in byte order of names: the same ones, with names apart where they were apart.
use Rattle.std.proofs.Common.{◌≡◌, suc, ◌≤◌, Bool, true, false, cond, List, [], ◌∷◌, length, Some, refl, sym, ap, ◌∙◌, arith, inl, inr}
use Rattle.std.specs.Ordering.{is_lt}
use Rattle.std.specs.List.{list_any, filter}
use Rattle.std.proofs.lemmas.Bool.{true≢false, or_parts, or_from, cond-true, cond-false}
use Rattle.dm_schema.specs.declared.column.Column.{Column}
use Rattle.dm_schema.specs.Names.{Text, name_cmp, same_name, column_at, repeats}
use Rattle.dm_schema.specs.NameOrder.{put_by, in_order_of}
use Rattle.dm_join.proofs.Lists.{IsIn, none_of, none_from, from_filter}
use Rattle.dm_join.proofs.NameLemmas.{same_is_equal, same_back, same_from}

pub in_put : {A : Type 0} (name : A → Text) (x : A) (ys : List A) (z : A) → IsIn z (x ∷ ys) → IsIn z (put_by name x ys)
in_put name x [] z i = i
in_put name x (y ∷ ys) z i = by (is_lt (name_cmp (name x) (name y))) i (in_put name x ys z) where
  by : (b : Bool) → IsIn z (x ∷ y ∷ ys) → (IsIn z (x ∷ ys) → IsIn z (put_by name x ys)) → IsIn z (cond b (x ∷ y ∷ ys) (y ∷ put_by name x ys))
  by true i rest = i
  by false (inl is) rest = inr (rest (inl is))
  by false (inr (inl is)) rest = inl is
  by false (inr (inr j)) rest = inr (rest (inr j))

pub from_put : {A : Type 0} (name : A → Text) (x : A) (ys : List A) (z : A) → IsIn z (put_by name x ys) → IsIn z (x ∷ ys)
from_put name x [] z i = i
from_put name x (y ∷ ys) z i = by (is_lt (name_cmp (name x) (name y))) i (from_put name x ys z) where
  by : (b : Bool) → IsIn z (cond b (x ∷ y ∷ ys) (y ∷ put_by name x ys)) → (IsIn z (put_by name x ys) → IsIn z (x ∷ ys)) → IsIn z (x ∷ y ∷ ys)
  by true i rest = i
  by false (inl is) rest = inr (inl is)
  by false (inr j) rest = later (rest j) where
    later : IsIn z (x ∷ ys) → IsIn z (x ∷ y ∷ ys)
    later (inl is) = inl is
    later (inr k) = inr (inr k)

pub in_ordered : {A : Type 0} (name : A → Text) (xs : List A) (z : A) → IsIn z xs → IsIn z (in_order_of name xs)
in_ordered name [] z i = i
in_ordered name (x ∷ xs) z (inl is) = in_put name x (in_order_of name xs) z (inl is)
in_ordered name (x ∷ xs) z (inr i) = in_put name x (in_order_of name xs) z (inr (in_ordered name xs z i))

pub from_ordered : {A : Type 0} (name : A → Text) (xs : List A) (z : A) → IsIn z (in_order_of name xs) → IsIn z xs
from_ordered name [] z i = i
from_ordered name (x ∷ xs) z i = by (from_put name x (in_order_of name xs) z i) (from_ordered name xs z) where
  by : IsIn z (x ∷ in_order_of name xs) → (IsIn z (in_order_of name xs) → IsIn z xs) → IsIn z (x ∷ xs)
  by (inl is) rest = inl is
  by (inr j) rest = inr (rest j)

length_put : {A : Type 0} (name : A → Text) (x : A) (ys : List A) → length (put_by name x ys) ≡ suc (length ys)
length_put name x [] = refl
length_put name x (y ∷ ys) = by (is_lt (name_cmp (name x) (name y))) (length_put name x ys) where
  by : (b : Bool) → length (put_by name x ys) ≡ suc (length ys) → length (cond b (x ∷ y ∷ ys) (y ∷ put_by name x ys)) ≡ suc (suc (length ys))
  by true e = refl
  by false e = ap suc e

pub length_ordered : {A : Type 0} (name : A → Text) (xs : List A) → length (in_order_of name xs) ≡ length xs
length_ordered name [] = refl
length_ordered name (x ∷ xs) = length_put name x (in_order_of name xs) ∙ ap suc (length_ordered name xs)

pub length_filtered : {A : Type 0} (f : A → Bool) (xs : List A) → length (filter f xs) ≤ length xs
length_filtered f [] = omega arith
length_filtered f (x ∷ xs) = by (f x) (length_filtered f xs) where
  by : (b : Bool) → length (filter f xs) ≤ length xs → length (cond b (x ∷ filter f xs) (filter f xs)) ≤ suc (length xs)
  by true h = omega arith
  by false h = omega arith

-- no two have one name
abbrev pub AreApart : {A : Type 0} → (A → Text) → List A → Type 0
AreApart name [] = Unit {0}
AreApart {A} name (x ∷ xs) = ((y : A) → IsIn y xs → same_name (name x) (name y) ≡ false) × AreApart name xs

pub apart_from : {A : Type 0} (name : A → Text) (xs : List A) → repeats (λ a b. same_name (name a) (name b)) xs ≡ false → AreApart name xs
apart_from name [] e = tt
apart_from name (x ∷ xs) e =
    let parts = or_parts (list_any (λ y. same_name (name x) (name y)) xs) (repeats (λ a b. same_name (name a) (name b)) xs) e in
    (λ y i. none_of (λ z. same_name (name x) (name z)) xs y parts.0 i, apart_from name xs parts.1)

pub apart_repeats : {A : Type 0} (name : A → Text) (xs : List A) → AreApart name xs → repeats (λ a b. same_name (name a) (name b)) xs ≡ false
apart_repeats name [] h = refl
apart_repeats name (x ∷ xs) h = or_from _ _ (none_from (λ y. same_name (name x) (name y)) xs h.0) (apart_repeats name xs h.1)

pub apart_filtered : {A : Type 0} (name : A → Text) (f : A → Bool) (xs : List A) → AreApart name xs → AreApart name (filter f xs)
apart_filtered name f [] h = tt
apart_filtered name f (x ∷ xs) h = by (f x) (apart_filtered name f xs h.1) where
  by : (b : Bool) → AreApart name (filter f xs) → AreApart name (cond b (x ∷ filter f xs) (filter f xs))
  by true rest = (λ y i. h.0 y (from_filter f xs y i).0, rest)
  by false rest = rest

apart_put : {A : Type 0} (name : A → Text) (x : A) (ys : List A) → ((y : A) → IsIn y ys → same_name (name x) (name y) ≡ false) → AreApart name ys → AreApart name (put_by name x ys)
apart_put name x [] other h = (λ y i. absurd i, tt)
apart_put {A} name x (y ∷ ys) other h = by (is_lt (name_cmp (name x) (name y))) (apart_put name x ys (λ z i. other z (inr i)) h.1) where
  from_y : (z : A) → IsIn z (x ∷ ys) → same_name (name y) (name z) ≡ false
  from_y z (inl is) = ap (λ w. same_name (name y) (name w)) (sym is) ∙ same_back (name y) (name x) ∙ other y (inl refl)
  from_y z (inr i) = h.0 z i

  by : (b : Bool) → AreApart name (put_by name x ys) → AreApart name (cond b (x ∷ y ∷ ys) (y ∷ put_by name x ys))
  by true rest = (other, h)
  by false rest = (λ z i. from_y z (from_put name x ys z i), rest)

pub apart_ordered : {A : Type 0} (name : A → Text) (xs : List A) → AreApart name xs → AreApart name (in_order_of name xs)
apart_ordered name [] h = tt
apart_ordered name (x ∷ xs) h = apart_put name x (in_order_of name xs) (λ y i. h.0 y (from_ordered name xs y i)) (apart_ordered name xs h.1)

abbrev pub column_name : Column → Text
column_name c = c.name

-- the column of a name is one of the columns, and has the name
pub found_column : (columns : List Column) (name : Text) (c : Column) → column_at columns name ≡ Some c → IsIn c columns × (c.name ≡ name)
found_column [] name c e = absurd (cc e)
found_column (d ∷ ds) name c e = by (same_name d.name name) refl e (found_column ds name c) where
  by : (b : Bool) → same_name d.name name ≡ b → cond b (Some d) (column_at ds name) ≡ Some c → (column_at ds name ≡ Some c → IsIn c ds × (c.name ≡ name)) → IsIn c (d ∷ ds) × (c.name ≡ name)
  by true same e rest = let is : d ≡ c = cc e in (inl is, ap (λ (x : Column). x.name) (sym is) ∙ same_is_equal d.name name same)
  by false same e rest = let r = rest e in (inr r.0, r.1)

-- a name that a column has finds one
pub some_found : (columns : List Column) (name : Text) (c : Column) → IsIn c columns → c.name ≡ name → (d : Column) × (column_at columns name ≡ Some d)
some_found [] name c i is = absurd i
some_found (d ∷ ds) name c i is = by (same_name d.name name) refl i (some_found ds name c) where
  by : (b : Bool) → same_name d.name name ≡ b → IsIn c (d ∷ ds) → (IsIn c ds → c.name ≡ name → (e : Column) × (column_at ds name ≡ Some e)) → (e : Column) × (cond b (Some d) (column_at ds name) ≡ Some e)
  by true same i rest = (d, refl)
  by false other (inl e) rest = absurd (true≢false (sym (same_from d.name name (ap (λ (x : Column). x.name) e ∙ is)) ∙ other))
  by false other (inr j) rest = rest j is

-- where no two columns have one name, each is the one of its name
pub finds_each : (columns : List Column) (c : Column) → AreApart column_name columns → IsIn c columns → column_at columns c.name ≡ Some c
finds_each [] c apart i = absurd i
finds_each (d ∷ ds) c apart (inl is) = cond-true (same_name d.name c.name) (Some d) (column_at ds c.name) (same_from d.name c.name (ap (λ (x : Column). x.name) is)) ∙ ap Some is
finds_each (d ∷ ds) c apart (inr i) = cond-false (same_name d.name c.name) (Some d) (column_at ds c.name) (apart.0 c i) ∙ finds_each ds c apart.1 i
