-- Things that have names, in byte order of the names.
use Rattle.std.specs.Prelude.{List, [], ◌∷◌, if◌then◌else◌}
use Rattle.std.specs.Ordering.{is_lt}
use Rattle.dm_schema.specs.declared.column.Column.{Column}
use Rattle.dm_schema.specs.declared.column.UniqueKey.{UniqueKey}
use Rattle.dm_schema.specs.Names.{Text, name_cmp}

-- x put before the first that has a greater name
abbrev pub put_by : {A : Type 0} → (A → Text) → A → List A → List A
put_by name x [] = x ∷ []
put_by name x (y ∷ ys) = if is_lt (name_cmp (name x) (name y)) then x ∷ y ∷ ys else y ∷ put_by name x ys

-- the list in byte order of names; of equal names the later first
abbrev pub in_order_of : {A : Type 0} → (A → Text) → List A → List A
in_order_of name [] = []
in_order_of name (x ∷ xs) = put_by name x (in_order_of name xs)

abbrev pub columns_in_order : List Column → List Column
columns_in_order columns = in_order_of (λ c. c.name) columns

abbrev pub uniques_in_order : List UniqueKey → List UniqueKey
uniques_in_order keys = in_order_of (λ k. k.name) keys
