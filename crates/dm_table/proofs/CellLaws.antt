-- Cells of rows by the names of their columns.
use Rattle.std.proofs.Common.{◌≡◌, Bool, true, false, cond, not, ◌&&◌, List, [], ◌∷◌, length, map, Option, Some, None, refl, sym, ap, ◌∙◌, arith, inl, inr, is_some}
use Rattle.std.specs.Prelude.{nat_eq, ◌⊎◌}
use Rattle.std.specs.Option.{option_map, option_map_or}
use Rattle.std.specs.List.{list_any, list_all, find, zip}
use Rattle.std.proofs.lemmas.Bool.{cases_Bool, or_parts, and_parts, and_from, false≢true}
use Rattle.std.proofs.lemmas.Bool.Decides.{nat_tests}
use Rattle.std.specs.Cmp.Lexicographic.{same_text}
use Rattle.dm_value.specs.declared.value.Value.{Value}
use Rattle.dm_schema.specs.declared.column.Column.{Column}
use Rattle.dm_schema.specs.Names.{Text, same_name, column_at, has_column}
use Rattle.dm_schema.specs.Schemas.{column_repeats}
use Rattle.dm_schema.specs.Fits.{fits}
use Rattle.dm_schema.specs.Rows.{cell}
use Rattle.dm_table.specs.Contents.{Row, fits_row}
use Rattle.dm_table.proofs.ListTests.{each_of_two, all_pass_not, something_found}

-- the cell of a row that is made column by column
pub cell-map : (f : Column → Value) (columns : List Column) (n : Text) → cell columns (map f columns) n ≡ option_map f (column_at columns n)
cell-map f [] n = refl
cell-map f (c ∷ cs) n = by (same_name c.name n) (cell-map f cs n) where
  by : (b : Bool) → cell cs (map f cs) n ≡ option_map f (column_at cs n)
      → option_map (λ p. p.1) (cond b (Some (c, f c)) (find (λ p. same_name p.0.name n) (zip cs (map f cs)))) ≡ option_map f (cond b (Some c) (column_at cs n))
  by true h = refl
  by false h = h

-- there is no cell where there is no column
pub cell_lacks : (columns : List Column) (row : Row) (n : Text) → has_column columns n ≡ false → cell columns row n ≡ None
cell_lacks [] row n h = refl
cell_lacks (c ∷ cs) [] n h = refl
cell_lacks (c ∷ cs) (v ∷ vs) n h = by (same_name c.name n) (or_parts (same_name c.name n) (has_column cs n) h).0 (cell_lacks cs vs n (or_parts (same_name c.name n) (has_column cs n) h).1) where
  by : (b : Bool) → b ≡ false → cell cs vs n ≡ None → option_map (λ p. p.1) (cond b (Some (c, v)) (find (λ p. same_name p.0.name n) (zip cs vs))) ≡ None
  by true e rest = absurd (false≢true (sym e))
  by false e rest = rest

pub equal_names : (a b : Text) → same_name a b ≡ true → a ≡ b
equal_names a b h = same_text a b (sym h)

-- a name is the same as itself
pub same_name_itself : (n : Text) → same_name n n ≡ true
same_name_itself [] = refl
same_name_itself (x ∷ xs) = and_from (nat_eq x x) (same_name xs xs) (grind (arith, nat_tests)) (same_name_itself xs)

-- a row that is made column by column fits as each of its values does
pub fits_row-map : (f : Column → Value) (columns : List Column) → fits_row columns (map f columns) ≡ list_all (λ c. fits (f c) c) columns
fits_row-map f [] = refl
fits_row-map f (c ∷ cs) = ap (λ b. fits (f c) c && b) (fits_row-map f cs)

-- a value is there, and fits
abbrev pub fits_there : Column → Option Value → Bool
fits_there c found = option_map_or (λ v. fits v c) found false

-- in a row that fits, each column's cell fits it
pub cells_fit : (columns : List Column) (row : Row) → column_repeats columns ≡ false → length row ≡ length columns → fits_row columns row ≡ true → list_all (λ c. fits_there c (cell columns row c.name)) columns ≡ true
cells_fit [] row apart long fit = refl
cells_fit (c ∷ cs) [] apart long fit = absurd (omega arith)
cells_fit (c ∷ cs) (v ∷ vs) apart long fit =
    and_from (fits_there c (cell (c ∷ cs) (v ∷ vs) c.name)) (list_all (λ d. fits_there d (cell (c ∷ cs) (v ∷ vs) d.name)) cs) (head (same_name c.name c.name) (same_name_itself c.name))
    (each_of_two (λ d. not (same_name c.name d.name)) (λ d. fits_there d (cell cs vs d.name)) (λ d. fits_there d (cell (c ∷ cs) (v ∷ vs) d.name)) later cs
    (all_pass_not (λ d. same_name c.name d.name) cs names.0) (cells_fit cs vs names.1 (omega arith) (and_parts (fits v c) (fits_row cs vs) fit).1)) where
      names : (list_any (λ d. same_name c.name d.name) cs ≡ false) × (column_repeats cs ≡ false)
      names = or_parts (list_any (λ d. same_name c.name d.name) cs) (column_repeats cs) apart

      head : (b : Bool) → b ≡ true → fits_there c (option_map (λ p. p.1) (cond b (Some (c, v)) (find (λ p. same_name p.0.name c.name) (zip cs vs)))) ≡ true
      head true e = (and_parts (fits v c) (fits_row cs vs) fit).0
      head false e = absurd (false≢true e)

      later : (d : Column) → not (same_name c.name d.name) ≡ true → fits_there d (cell cs vs d.name) ≡ true → fits_there d (cell (c ∷ cs) (v ∷ vs) d.name) ≡ true
      later d other fit = by (same_name c.name d.name) other where
        by : (b : Bool) → not b ≡ true → fits_there d (option_map (λ p. p.1) (cond b (Some (c, v)) (find (λ p. same_name p.0.name d.name) (zip cs vs)))) ≡ true
        by true e = absurd (false≢true e)
        by false e = fit

-- a row that is long enough has a cell in each column
pub cell_there : (columns : List Column) (row : Row) (n : Text) → length row ≡ length columns → is_some (column_at columns n) ≡ true → is_some (cell columns row n) ≡ true
cell_there [] row n long h = absurd (false≢true h)
cell_there (c ∷ cs) [] n long h = absurd (omega arith)
cell_there (c ∷ cs) (v ∷ vs) n long h = by (same_name c.name n) h (cell_there cs vs n (omega arith)) where
  by : (b : Bool) → is_some (cond b (Some c) (column_at cs n)) ≡ true → (is_some (column_at cs n) ≡ true → is_some (cell cs vs n) ≡ true)
      → is_some (option_map (λ p. p.1) (cond b (Some (c, v)) (find (λ p. same_name p.0.name n) (zip cs vs)))) ≡ true
  by true e rest = refl
  by false e rest = rest e

-- none where there is no column
pub nowhere_lacks : (columns : List Column) (row : Row) (n : Text) → column_at columns n ≡ None → cell columns row n ≡ None
nowhere_lacks columns row n h = by (cases_Bool (has_column columns n)) where
  by : (has_column columns n ≡ true) ⊎ (has_column columns n ≡ false) → cell columns row n ≡ None
  by (inl has) = let found = something_found (λ c. same_name c.name n) columns has in let both : None ≡ Some found.0 = sym h ∙ found.1 in absurd (cc both)
  by (inr lacks) = cell_lacks columns row n lacks
