-- Which column a name has behind a change of the columns.
use Rattle.std.proofs.Common.{◌≡◌, Bool, true, false, not, cond, ◌||◌, List, [], ◌∷◌, ◌++◌, Option, Some, None, is_some, refl, sym, ap, ◌∙◌}
use Rattle.std.proofs.lemmas.Bool.{true≢false}
use Rattle.std.proofs.lemmas.Cmp.{nat_list_eq_equiv}
use Rattle.std.specs.Cmp.Lexicographic.{same_text}
use Rattle.dm_schema.specs.declared.column.Column.{Column}
use Rattle.dm_schema.specs.declared.change.Spot.{Spot}
use Rattle.dm_schema.specs.declared.change.Spot.TheVariants as spot
use Rattle.dm_schema.specs.Names.{Text, same_name, column_at, has_column}
use Rattle.dm_schema.specs.Effect.{without_column, put_after, placed, replaced, modified, stands}

pub equal_names : (a b : Text) → same_name a b ≡ true → a ≡ b
equal_names a b h = same_text a b (sym h)

pub one_name : (a : Text) → same_name a a ≡ true
one_name a = nat_list_eq_equiv.refl a

other_way : (a b : Text) → same_name a b ≡ false → same_name b a ≡ false
other_way a b h = by (same_name b a) refl where
  by : (b' : Bool) → same_name b a ≡ b' → same_name b a ≡ false
  by true e = let equal : b ≡ a = equal_names b a e in absurd (true≢false (sym (one_name a) ∙ (rw equal at h)))
  by false e = e

-- of two equal names both are the third, or neither is
apart : (a n m : Text) → same_name n m ≡ false → same_name a n ≡ true → same_name a m ≡ true → ⊥
apart a n m differ here there =
    let first : a ≡ n = equal_names a n here in
    true≢false (sym (rw first at there) ∙ differ)

pub has_by_name : (columns : List Column) (name : Text) → has_column columns name ≡ is_some (column_at columns name)
has_by_name [] name = refl
has_by_name (c ∷ cs) name = by (same_name c.name name) (has_by_name cs name) where
  by : (b : Bool) → has_column cs name ≡ is_some (column_at cs name) → (b || has_column cs name) ≡ is_some (cond b (Some c) (column_at cs name))
  by true rest = refl
  by false rest = rest

pub none_there : (columns : List Column) (name : Text) → has_column columns name ≡ false → column_at columns name ≡ None
none_there columns name h = by (column_at columns name) (sym (has_by_name columns name) ∙ h) where
  by : (o : Option Column) → is_some o ≡ false → o ≡ None
  by None e = refl
  by (Some c) e = absurd (true≢false e)

pub one_there : (columns : List Column) (name : Text) → has_column columns name ≡ true → (c : Column) × (column_at columns name ≡ Some c)
one_there columns name h = by (column_at columns name) (sym (has_by_name columns name) ∙ h) where
  by : (o : Option Column) → is_some o ≡ true → (c : Column) × (o ≡ Some c)
  by None e = absurd (true≢false (sym e))
  by (Some c) e = (c, refl)

pub found_name : (columns : List Column) (name : Text) (column : Column) → column_at columns name ≡ Some column → same_name column.name name ≡ true
found_name [] name column e = absurd cc
found_name (c ∷ cs) name column e = by (same_name c.name name) refl e (found_name cs name column) where
  by : (b : Bool) → same_name c.name name ≡ b → cond b (Some c) (column_at cs name) ≡ Some column → (column_at cs name ≡ Some column → same_name column.name name ≡ true)
      → same_name column.name name ≡ true
  by true told h rest = let same : c ≡ column = cc in rw (← same) told
  by false told h rest = rest h

-- Columns that are taken away.

pub without_itself : (columns : List Column) (name : Text) → column_at (without_column columns name) name ≡ None
without_itself [] name = refl
without_itself (c ∷ cs) name = by (same_name c.name name) refl (without_itself cs name) where
  by : (b : Bool) → same_name c.name name ≡ b → column_at (without_column cs name) name ≡ None
      → column_at (cond (not b) (c ∷ without_column cs name) (without_column cs name)) name ≡ None
  by true told rest = rest
  by false told rest = rw told rest

pub without_other : (columns : List Column) (gone name : Text) → same_name gone name ≡ false → column_at (without_column columns gone) name ≡ column_at columns name
without_other [] gone name differ = refl
without_other (c ∷ cs) gone name differ = by (same_name c.name gone) (same_name c.name name) refl refl (without_other cs gone name differ) where
  by : (is_gone is_it : Bool) → same_name c.name gone ≡ is_gone → same_name c.name name ≡ is_it → column_at (without_column cs gone) name ≡ column_at cs name
      → column_at (cond (not is_gone) (c ∷ without_column cs gone) (without_column cs gone)) name ≡ cond is_it (Some c) (column_at cs name)
  by true true taken told rest = absurd (apart c.name gone name differ taken told)
  by true false taken told rest = rest
  by false true taken told rest = rw told refl
  by false false taken told rest = rw told rest

-- Columns that are written.

-- behind a change a column has its name, and each other name has the column that it had
pub record IsWritten (columns after : List Column) (column : Column) : Type 0 where
  pub here : column_at after column.name ≡ Some column
  pub elsewhere : (name : Text) → same_name column.name name ≡ false → column_at after name ≡ column_at columns name

replaced_here : (columns : List Column) (column : Column) → has_column columns column.name ≡ true → column_at (replaced column columns) column.name ≡ Some column
replaced_here [] column has = absurd cc
replaced_here (c ∷ cs) column has = by (same_name c.name column.name) refl has (replaced_here cs column) where
  by : (b : Bool) → same_name c.name column.name ≡ b → (b || has_column cs column.name) ≡ true
      → (has_column cs column.name ≡ true → column_at (replaced column cs) column.name ≡ Some column)
      → column_at (cond b column c ∷ replaced column cs) column.name ≡ Some column
  by true told h rest = rw (one_name column.name) refl
  by false told h rest = rw told (rest h)

replaced_elsewhere : (columns : List Column) (column : Column) (name : Text) → same_name column.name name ≡ false → column_at (replaced column columns) name ≡ column_at columns name
replaced_elsewhere [] column name differ = refl
replaced_elsewhere (c ∷ cs) column name differ = by (same_name c.name column.name) (same_name c.name name) refl refl (replaced_elsewhere cs column name differ) where
  by : (is_here is_it : Bool) → same_name c.name column.name ≡ is_here → same_name c.name name ≡ is_it → column_at (replaced column cs) name ≡ column_at cs name
      → column_at (cond is_here column c ∷ replaced column cs) name ≡ cond is_it (Some c) (column_at cs name)
  by true true taken told rest = absurd (apart c.name column.name name differ taken told)
  by true false taken told rest = rw differ rest
  by false true taken told rest = rw told refl
  by false false taken told rest = rw told rest

put_here : (columns : List Column) (name : Text) (column : Column) → column_at columns column.name ≡ None → has_column columns name ≡ true
    → column_at (put_after name column columns) column.name ≡ Some column
put_here [] name column none has = absurd cc
put_here (c ∷ cs) name column none has = by (same_name c.name name) (same_name c.name column.name) refl none has (put_here cs name column) where
  by : (is_here is_it : Bool) → same_name c.name column.name ≡ is_it → cond is_it (Some c) (column_at cs column.name) ≡ None → (is_here || has_column cs name) ≡ true
      → (column_at cs column.name ≡ None → has_column cs name ≡ true → column_at (put_after name column cs) column.name ≡ Some column)
      → column_at (cond is_here (c ∷ column ∷ []) (c ∷ []) ++ put_after name column cs) column.name ≡ Some column
  by is_here true told h has_it rest = absurd cc
  by true false told h has_it rest = rw (told, one_name column.name) refl
  by false false told h has_it rest = rw told (rest h has_it)

put_elsewhere : (columns : List Column) (place : Text) (column : Column) (name : Text) → same_name column.name name ≡ false
    → column_at (put_after place column columns) name ≡ column_at columns name
put_elsewhere [] place column name differ = refl
put_elsewhere (c ∷ cs) place column name differ = by (same_name c.name place) (same_name c.name name) refl (put_elsewhere cs place column name differ) where
  by : (is_here is_it : Bool) → same_name c.name name ≡ is_it → column_at (put_after place column cs) name ≡ column_at cs name
      → column_at (cond is_here (c ∷ column ∷ []) (c ∷ []) ++ put_after place column cs) name ≡ cond is_it (Some c) (column_at cs name)
  by true true told rest = rw told refl
  by true false told rest = rw (told, differ) rest
  by false true told rest = rw told refl
  by false false told rest = rw told rest

last_here : (columns : List Column) (column : Column) → column_at columns column.name ≡ None → column_at (columns ++ column ∷ []) column.name ≡ Some column
last_here [] column none = rw (one_name column.name) refl
last_here (c ∷ cs) column none = by (same_name c.name column.name) none (last_here cs column) where
  by : (b : Bool) → cond b (Some c) (column_at cs column.name) ≡ None → (column_at cs column.name ≡ None → column_at (cs ++ column ∷ []) column.name ≡ Some column)
      → cond b (Some c) (column_at (cs ++ column ∷ []) column.name) ≡ Some column
  by true h rest = absurd cc
  by false h rest = rest h

last_elsewhere : (columns : List Column) (column : Column) (name : Text) → same_name column.name name ≡ false → column_at (columns ++ column ∷ []) name ≡ column_at columns name
last_elsewhere [] column name differ = rw differ refl
last_elsewhere (c ∷ cs) column name differ = ap (cond (same_name c.name name) (Some c)) (last_elsewhere cs column name differ)

pub replaced_writes : (columns : List Column) (column : Column) → has_column columns column.name ≡ true → IsWritten columns (replaced column columns) column
replaced_writes columns column has = record { here = replaced_here columns column has; elsewhere = replaced_elsewhere columns column }

last_writes : (columns : List Column) (column : Column) → column_at columns column.name ≡ None → IsWritten columns (columns ++ column ∷ []) column
last_writes columns column none = record { here = last_here columns column none; elsewhere = last_elsewhere columns column }

first_writes : (columns : List Column) (column : Column) → IsWritten columns (column ∷ columns) column
first_writes columns column = record { here = rw (one_name column.name) refl; elsewhere = λ name differ. rw differ refl }

put_writes : (columns : List Column) (place : Text) (column : Column) → column_at columns column.name ≡ None → has_column columns place ≡ true
    → IsWritten columns (put_after place column columns) column
put_writes columns place column none has = record { here = put_here columns place column none has; elsewhere = put_elsewhere columns place column }

pub placed_writes : (columns : List Column) (place : Spot) (column : Column) → has_column columns column.name ≡ false → stands columns place ≡ true
    → IsWritten columns (placed place column columns) column
placed_writes columns spot.Keep column lacks stand = last_writes columns column (none_there columns column.name lacks)
placed_writes columns spot.Last column lacks stand = last_writes columns column (none_there columns column.name lacks)
placed_writes columns spot.First column lacks stand = first_writes columns column
placed_writes columns (spot.After name) column lacks stand = put_writes columns name column (none_there columns column.name lacks) stand

-- what is written behind its own column was taken away
written_without : (columns after : List Column) (column : Column) → IsWritten (without_column columns column.name) after column → IsWritten columns after column
written_without columns after column written =
    record { here = written.here; elsewhere = λ name differ. written.elsewhere name differ ∙ without_other columns column.name name differ }

pub modified_writes : (columns : List Column) (place : Spot) (column : Column) → has_column columns column.name ≡ true → stands columns place ≡ true
    → IsWritten columns (modified place column columns) column
modified_writes columns spot.Keep column has stand = replaced_writes columns column has
modified_writes columns spot.Last column has stand =
    written_without columns _ column (last_writes (without_column columns column.name) column (without_itself columns column.name))
modified_writes columns spot.First column has stand = written_without columns _ column (first_writes (without_column columns column.name) column)
modified_writes columns (spot.After name) column has stand = by (same_name name column.name) refl where
  by : (b : Bool) → same_name name column.name ≡ b → IsWritten columns (cond b (replaced column columns) (put_after name column (without_column columns column.name))) column
  by true told = replaced_writes columns column has
  by false told =
      let there : has_column (without_column columns column.name) name ≡ true =
      has_by_name (without_column columns column.name) name
      ∙ ap is_some (without_other columns column.name name (other_way name column.name told))
      ∙ sym (has_by_name columns name) ∙ stand in
      written_without columns _ column (put_writes (without_column columns column.name) name column (without_itself columns column.name) there)
