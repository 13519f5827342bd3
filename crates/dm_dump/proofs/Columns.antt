-- The columns of an order are columns of the schema.
use Rattle.std.proofs.Common.{◌≡◌, Bool, true, false, cond, List, [], ◌∷◌, ◌++◌, Some, refl, IsTrue, sym, subst}
use Rattle.std.proofs.lemmas.Bool.{and_parts}
use Rattle.std.specs.List.{list_all, find}
use Rattle.std.specs.Option.{option_to_list}
use Rattle.dm_schema.specs.declared.column.Column.{Column}
use Rattle.dm_schema.specs.Kinds.{is_column}
use Rattle.dm_schema.specs.Names.{Text, same_name, column_at}
use Rattle.dm_dump.specs.Orders.{columns_by}

-- what all pass is passed by one that is found
found_passes : {A : Type 0} (test p : A → Bool) (xs : List A) → list_all test xs ≡ true → list_all test (option_to_list (find p xs)) ≡ true
found_passes test p [] h = refl
found_passes test p (x ∷ xs) h = by (p x) (and_parts (test x) (list_all test xs) h).0 (found_passes test p xs (and_parts (test x) (list_all test xs) h).1) where
  by : (b : Bool) → test x ≡ true → list_all test (option_to_list (find p xs)) ≡ true → list_all test (option_to_list (cond b (Some x) (find p xs))) ≡ true
  by true here rest = rw here refl
  by false here rest = rest

joined : {A : Type 0} (test : A → Bool) (xs ys : List A) → list_all test xs ≡ true → list_all test ys ≡ true → list_all test (xs ++ ys) ≡ true
joined test [] ys p q = q
joined test (x ∷ xs) ys p q = let parts = and_parts (test x) (list_all test xs) p in rw (parts.0) (joined test xs ys parts.1 q)

pub columns_by_formed : (columns : List Column) (order : List Text) → list_all is_column columns ≡ true → list_all is_column (columns_by columns order) ≡ true
columns_by_formed columns [] h = refl
columns_by_formed columns (n ∷ ns) h = joined is_column (option_to_list (column_at columns n)) (columns_by columns ns) (found_passes is_column (λ c. same_name c.name n) columns h) (columns_by_formed columns ns h)

-- what all pass is passed by those at the front
front_passes : {A : Type 0} (test : A → Bool) (xs ys : List A) → list_all test (xs ++ ys) ≡ true → list_all test xs ≡ true
front_passes test [] ys h = refl
front_passes test (x ∷ xs) ys h =
    let parts = and_parts (test x) (list_all test (xs ++ ys)) h in
    rw parts.0 (front_passes test xs ys parts.1)

pub made_formed : (columns made rest : List Column) (order : List Text) → made ++ rest ≡ columns_by columns order → IsTrue (list_all is_column columns) → IsTrue (list_all is_column made)
made_formed columns made rest order e h = front_passes is_column made rest (subst (λ (cs : List Column). list_all is_column cs ≡ true) (sym e) (columns_by_formed columns order h))
