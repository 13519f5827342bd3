-- A row's values by place are its values by name.
use Rattle.std.proofs.Common.{◌≡◌, ℕ, suc, ◌+◌, Bool, true, false, cond, List, [], ◌∷◌, Option, Some, None, refl, sym, ap, ◌∙◌, arith}
use Rattle.std.specs.Prelude.{unwrap_or, option_and_then, option_map, slice_get}
use Rattle.std.specs.List.{find, zip, position, position_from}
use Rattle.std.specs.Option.{option_or}
use Rattle.std.proofs.lemmas.Iterator.Adapters.{position_from-zero}
use Rattle.dm_value.specs.declared.value.Value.{Value}
use Rattle.dm_value.specs.declared.value.Value.TheVariants as value
use Rattle.dm_schema.specs.declared.column.Column.{Column}
use Rattle.dm_schema.specs.Fill.{fill}
use Rattle.dm_schema.specs.Names.{Text, same_name}
use Rattle.dm_schema.specs.Rows.{cell, values_at}
use Rattle.dm_top.specs.Rows.{Row, widened_cell, widened}
use Rattle.dm_top.specs.Places.{value_from, values_from, origin_of, key_origins, filled, column_origins}

-- the place of the first that passes, counted from one further
counted_on : {A : Type 0} (test : A → Bool) (i : ℕ) (xs : List A) → position_from test (i + 1) xs ≡ option_map suc (position_from test i xs)
counted_on test i [] = refl
counted_on test i (x ∷ xs) = by (test x) (counted_on test (i + 1) xs) where
  by : (b : Bool) → position_from test (i + 1 + 1) xs ≡ option_map suc (position_from test (i + 1) xs)
      → cond b (Some (i + 1)) (position_from test (i + 1 + 1) xs) ≡ option_map suc (cond b (Some i) (position_from test (i + 1) xs))
  by true e = ap (λ (n : ℕ). let o : Option ℕ = Some n in o) (omega arith)
  by false e = e

nowhere : {A : Type 0} (o : Option ℕ) → option_and_then (λ k. slice_get {X = A} [] k) o ≡ None
nowhere None = refl
nowhere (Some k) = refl

one_later : {A : Type 0} (x : A) (xs : List A) (o : Option ℕ) → option_and_then (slice_get (x ∷ xs)) (option_map suc o) ≡ option_and_then (slice_get xs) o
one_later x xs None = refl
one_later x xs (Some k) = refl

-- the cell of a name stands where the name's column does
cell_from : (columns : List Column) (row : Row) (name : Text) → cell columns row name ≡ option_and_then (slice_get row) (position_from (λ c. same_name c.name name) 0 columns)
cell_from [] row name = refl
cell_from (c ∷ columns) [] name = sym (nowhere (position_from (λ c. same_name c.name name) 0 (c ∷ columns)))
cell_from (c ∷ columns) (v ∷ row) name =
    by (same_name c.name name)
    (cell_from columns row name ∙ sym (one_later v row (position_from (λ c. same_name c.name name) 0 columns)) ∙ ap (option_and_then (slice_get (v ∷ row))) (sym (counted_on (λ c. same_name c.name name) 0 columns))) where
      by : (b : Bool) → cell columns row name ≡ option_and_then (slice_get (v ∷ row)) (position_from (λ c. same_name c.name name) 1 columns)
          → option_map (λ (p : Column × Value). p.1) (cond b (Some (c, v)) (find (λ p. same_name p.0.name name) (zip columns row))) ≡ option_and_then (slice_get (v ∷ row)) (cond b (Some 0) (position_from (λ c. same_name c.name name) 1 columns))
      by true e = refl
      by false e = e

cell_at : (columns : List Column) (row : Row) (name : Text) → cell columns row name ≡ option_and_then (slice_get row) (position (λ c. same_name c.name name) columns)
cell_at columns row name = cell_from columns row name ∙ ap (option_and_then (slice_get row)) (sym (position_from-zero (λ c. same_name c.name name) columns))

pub key_values : (columns : List Column) (names : List Text) (row : Row) → values_from (key_origins columns names) row ≡ values_at columns row names
key_values columns [] row = refl
key_values columns (name ∷ names) row =
    ap (λ (o : Option Value). unwrap_or o value.Null ∷ values_from (key_origins columns names) row) (sym (cell_at columns row name))
    ∙ ap (λ rest. unwrap_or (cell columns row name) value.Null ∷ rest) (key_values columns names row)

either : (o f : Option Value) → unwrap_or o (unwrap_or f value.Null) ≡ unwrap_or (option_or o f) value.Null
either None f = refl
either (Some v) f = refl

wide_value : (columns : List Column) (row : Row) (c : Column) → value_from row (origin_of columns c.name (filled c)) ≡ widened_cell columns row c
wide_value columns row c = ap (λ (o : Option Value). unwrap_or o (filled c)) (sym (cell_at columns row c.name)) ∙ either (cell columns row c.name) (fill c)

pub wide_values : (joined columns : List Column) (row : Row) → values_from (column_origins joined columns) row ≡ widened joined columns row
wide_values [] columns row = refl
wide_values (c ∷ joined) columns row =
    ap (λ (v : Value). v ∷ values_from (column_origins joined columns) row) (wide_value columns row c) ∙ ap (λ rest. widened_cell columns row c ∷ rest) (wide_values joined columns row)
