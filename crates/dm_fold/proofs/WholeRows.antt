-- An operation that gives each column a value leaves just those values.
use Rattle.std.proofs.Common.{◌≡◌, Bool, true, false, cond, List, [], ◌∷◌, length, map, Option, Some, None, refl, sym, ap, ◌∙◌, arith}
use Rattle.std.specs.Prelude.{unwrap_or}
use Rattle.std.specs.Option.{option_map, option_or}
use Rattle.std.specs.List.{list_any, find, zip}
use Rattle.std.proofs.lemmas.Bool.{or_parts, false≢true}
use Rattle.dm_value.specs.declared.value.Value.{Value}
use Rattle.dm_value.specs.declared.value.Value.TheVariants as value
use Rattle.dm_schema.specs.declared.column.Column.{Column}
use Rattle.dm_schema.specs.Layout.{Layout}
use Rattle.dm_schema.specs.Names.{Text, same_name, column_names}
use Rattle.dm_schema.specs.Schemas.{column_repeats}
use Rattle.dm_table.specs.declared.op.RowOp.{RowOp}
use Rattle.dm_table.specs.Contents.{Row, RowMap}
use Rattle.dm_table.specs.Operations.{columns_of, values_of, named_value, kept_value, left_row}
use Rattle.dm_table.proofs.CellLaws.{same_name_itself}

-- the value that named values give a column, or what it has otherwise
abbrev of_named : (Column → Option Value) → List (Text × Value) → Column → Value
of_named other named c = unwrap_or (option_or (option_map (λ p. p.1) (find (λ p. same_name p.0 c.name) named)) (other c)) value.Null

-- a value of another name counts for nothing
passed_over : (other : Column → Option Value) (n : Text) (v : Value) (named : List (Text × Value)) (cs : List Column) → list_any (λ d. same_name n d.name) cs ≡ false
    → map (of_named other ((n, v) ∷ named)) cs ≡ map (of_named other named) cs
passed_over other n v named [] apart = refl
passed_over other n v named (c ∷ cs) apart =
    let parts = or_parts (same_name n c.name) (list_any (λ d. same_name n d.name) cs) apart in
    λ i. first (same_name n c.name) parts.0 i ∷ passed_over other n v named cs parts.1 i where
      first : (b : Bool) → b ≡ false → unwrap_or (option_or (option_map (λ p. p.1) (cond b (Some (n, v)) (find (λ p. same_name p.0 c.name) named))) (other c)) value.Null ≡ of_named other named c
      first true e = absurd (false≢true (sym e))
      first false e = refl

each_named : (other : Column → Option Value) (cs : List Column) (vs : List Value) → column_repeats cs ≡ false → length vs ≡ length cs → map (of_named other (zip (column_names cs) vs)) cs ≡ vs
each_named other [] [] apart long = refl
each_named other [] (v ∷ vs) apart long = absurd (omega arith)
each_named other (c ∷ cs) [] apart long = absurd (omega arith)
each_named other (c ∷ cs) (v ∷ vs) apart long =
    let parts = or_parts (list_any (λ d. same_name c.name d.name) cs) (column_repeats cs) apart in
    let rest : map (of_named other ((c.name, v) ∷ zip (column_names cs) vs)) cs ≡ vs = passed_over other c.name v (zip (column_names cs) vs) cs parts.0 ∙ each_named other cs vs parts.1 (omega arith) in
    λ i. first (same_name c.name c.name) (same_name_itself c.name) i ∷ rest i where
      first : (b : Bool) → b ≡ true → unwrap_or (option_or (option_map (λ p. p.1) (cond b (Some (c.name, v)) (find (λ p. same_name p.0 c.name) (zip (column_names cs) vs)))) (other c)) value.Null ≡ v
      first true e = refl
      first false e = absurd (false≢true e)

pub whole_row : (layout : Layout) (o : RowOp) (rows : RowMap) (row : Row) → columns_of o ≡ column_names layout.columns → values_of o ≡ row → column_repeats layout.columns ≡ false → length row ≡ length layout.columns
    → left_row layout o rows ≡ row
whole_row layout o rows row names values apart long =
    (λ i. map (of_named (kept_value layout.columns o rows) (zip (names i) (values i))) layout.columns) ∙ each_named (kept_value layout.columns o rows) layout.columns row apart long
