-- The steps of a source: a row is inserted, updated or deleted, and `x` chooses which one and its values.
use Rattle.std.specs.Prelude.{ℕ, zero, suc, pos, ◌+◌, ◌*◌, ◌/◌, ◌%◌, ◌==◌, nat_lt, List, [], ◌∷◌, ◌++◌, length, map, remove, slice_index_or, slice_set, Option, Some, None, unwrap_or, if◌then◌else◌}
use Rattle.std.specs.List.{range_with_len}
use Rattle.dm_value.specs.declared.value.Value.{Value}
use Rattle.dm_value.specs.declared.value.Value.TheVariants as value
use Rattle.dm_schema.specs.declared.row_change.RowChange.{RowChange}
use Rattle.dm_schema.specs.declared.row_change.RowChange.TheVariants as change
use Rattle.dm_gen.specs.declared.live_row.LiveRow.{LiveRow}
use Rattle.dm_gen.specs.Numbers.{first_number, next_number}

-- the values of a row in the order of the columns, when so many statements are done
abbrev pub row_of : ℕ → LiveRow → List Value
row_of done row =
    value.Int (pos row.id) ∷ value.Int (pos row.u) ∷ value.Int (pos row.v)
    ∷ (if nat_lt done 1 then [] else value.Int (pos row.d) ∷ [])

-- Where a source's steps stand: the number, the id of the next row, the freed value of `u` if there is one, and the rows
-- that live.
pub record Walk : Type 0 where
  pub x : ℕ
  pub next : ℕ
  pub freed : Option ℕ
  pub live : List LiveRow

-- Before the first step.

-- the dump's row of a number
abbrev pub dumped_row : ℕ → ℕ → LiveRow
dumped_row source i = record { id = source * 1000000 + i; u = source * 1000000 + i; v = i; d = 5 }

-- the first so many of them
unfoldable pub dumped_rows : ℕ → ℕ → List LiveRow
dumped_rows source count = map (dumped_row source) (range_with_len 0 count)

abbrev pub first_walk : ℕ → ℕ → Walk
first_walk number source = record { x = first_number number source; next = source * 1000000 + 1000; freed = None; live = dumped_rows source 1000 }

-- One step.

-- what a step leaves, and the change that it writes
pub record Step : Type 0 where
  pub walk : Walk
  pub change : RowChange

-- x goes on before each step
abbrev pub advanced : Walk → Walk
advanced w = record w { x = next_number w.x }

-- the row that x inserts, with the `d` that a row before the first statement gets
abbrev pub new_row : ℕ → Walk → LiveRow
new_row done w = record { id = w.next; u = unwrap_or w.freed w.next; v = w.x % 1000; d = if nat_lt done 1 then 5 else w.x % 7 }

-- it goes last; a freed value is used up
abbrev pub inserted : ℕ → Walk → Step
inserted done w =
    record {
      walk = record { x = w.x; next = w.next + 1; freed = None; live = w.live ++ new_row done w ∷ [] };
      change = change.Insert (row_of done (new_row done w));
    }

-- the place that x chooses, and the row there
abbrev pub place : Walk → ℕ
place w = w.x % length w.live

abbrev pub chosen : Walk → LiveRow
chosen w = slice_index_or w.live (place w) (record { id = 0; u = 0; v = 0; d = 0 })

abbrev pub with_v : ℕ → LiveRow → LiveRow
with_v v row = record { id = row.id; u = row.u; v = v; d = row.d }

-- the chosen row gets another v
abbrev pub updated : ℕ → Walk → Step
updated done w =
    record {
      walk = record { x = w.x; next = w.next; freed = w.freed; live = slice_set w.live (place w) (with_v (w.x % 1000) (chosen w)) };
      change = change.Update (row_of done (chosen w)) (row_of done (with_v (w.x % 1000) (chosen w)));
    }

-- the list closes up, and the chosen row's u is free
abbrev pub deleted : ℕ → Walk → Step
deleted done w =
    record {
      walk = record { x = w.x; next = w.next; freed = Some (chosen w).u; live = remove w.live (place w) };
      change = change.Delete (row_of done (chosen w));
    }

-- how many statements are done before a step
abbrev pub done_before : ℕ → ℕ
done_before j = j / 1000

-- two inserts, an update and a delete, in turn
abbrev pub step : ℕ → Walk → Step
step j w =
    if nat_lt (j % 4) 2 then inserted (done_before j) (advanced w)
    else if j % 4 == 2 then updated (done_before j) (advanced w)
    else deleted (done_before j) (advanced w)

-- where the steps stand when so many are done
unfoldable pub walk_at : ℕ → ℕ → ℕ → Walk
walk_at number source zero = first_walk number source
walk_at number source (suc j) = (step j (walk_at number source j)).walk
