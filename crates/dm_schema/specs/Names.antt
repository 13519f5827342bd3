-- Names, and columns by their names.
use Rattle.std.specs.Prelude.{ℕ, Bool, false, ◌||◌, List, [], ◌∷◌, Option, is_some, map, nat_eq}
use Rattle.std.specs.declared.cmp.Ordering.{Ordering}
use Rattle.std.specs.Ordering.{nat_cmp}
use Rattle.std.specs.Cmp.Lexicographic.{slice_cmp, pointwise}
use Rattle.std.specs.List.{find, list_any, list_all}
use Rattle.dm_schema.specs.declared.column.Column.{Column}

-- a name, as its bytes
abbrev pub Text : Type 0
Text = List ℕ

-- names in byte order
abbrev pub name_cmp : Text → Text → Ordering
name_cmp = slice_cmp nat_cmp

abbrev pub same_name : Text → Text → Bool
same_name = pointwise nat_eq

abbrev pub column_names : List Column → List Text
column_names columns = map (λ c. c.name) columns

-- the column of a name
abbrev pub column_at : List Column → Text → Option Column
column_at columns name = find (λ c. same_name c.name name) columns

abbrev pub has_column : List Column → Text → Bool
has_column columns name = list_any (λ c. same_name c.name name) columns

-- an element of the list is the same as a later one
abbrev pub repeats : {A : Type 0} → (A → A → Bool) → List A → Bool
repeats same [] = false
repeats same (x ∷ xs) = list_any (λ y. same x y) xs || repeats same xs
