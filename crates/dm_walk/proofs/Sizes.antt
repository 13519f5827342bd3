-- How many bytes the change of a row takes.
use Rattle.std.proofs.Common.{◌≡◌, ℕ, ◌+◌, ◌-◌, ◌≤◌, Bool, true, false, List, length, drop, take, Ok, Err, refl, sym, ap, ◌∙◌, arith, length-drop}
use Rattle.std.specs.Bool.{⊤, MatchBool}
use Rattle.std.proofs.lemmas.List.{take_rest}
use Rattle.dm_list.specs.Answer.{Answers}
use Rattle.dm_value.specs.declared.value.Value.{Value}
use Rattle.dm_schema.specs.Layout.{Layout}
use Rattle.dm_binlog.specs.declared.bodies.ColumnMap.{ColumnMap}
use Rattle.dm_decode.specs.declared.fault.RowFault.{RowFault}
use Rattle.dm_decode.specs.Rows.{is_memory, row_of}
use Rattle.dm_decode.proofs.Laws.{row_is}
use Rattle.dm_walk.specs.Walks.{change_size}

pub row_within : (maps : List ColumnMap) (layout : Layout) (bytes : List ℕ) (row : List Value) (size : ℕ) → Ok (row, size) ≡ row_of maps layout bytes → size ≤ length bytes
row_within maps layout bytes row size is = (row_is maps layout bytes row size (sym is)).2

pub one_image : (update : Bool) (maps : List ColumnMap) (layout : Layout) (bytes : List ℕ) (row : List Value) (size : ℕ) → update ≡ false → Ok (row, size) ≡ row_of maps layout bytes → Ok size ≡ change_size update maps layout bytes
one_image update maps layout bytes row size once is = rw (once, ← is) refl

-- the bytes behind an image, as a slice has them
pub behind_image : (maps : List ColumnMap) (layout : Layout) (bytes : List ℕ) (size : ℕ) → row_of maps layout (take (length bytes - size) (drop size bytes)) ≡ row_of maps layout (drop size bytes)
behind_image maps layout bytes size = ap (row_of maps layout) (take_rest bytes size)

pub two_images : (update : Bool) (maps : List ColumnMap) (layout : Layout) (bytes : List ℕ) (row other : List Value) (size second : ℕ) → update ≡ true → Ok (row, size) ≡ row_of maps layout bytes
    → Ok (other, second) ≡ row_of maps layout (take (length bytes - size) (drop size bytes)) → Ok (size + second) ≡ change_size update maps layout bytes
two_images update maps layout bytes row other size second twice is behind =
    let there : Ok (other, second) ≡ row_of maps layout (drop size bytes) = behind ∙ behind_image maps layout bytes size in
    rw (twice, ← is) (rw (← there) refl)

pub both_within : (maps : List ColumnMap) (layout : Layout) (bytes : List ℕ) (row other : List Value) (size second : ℕ) → Ok (row, size) ≡ row_of maps layout bytes
    → Ok (other, second) ≡ row_of maps layout (take (length bytes - size) (drop size bytes)) → size + second ≤ length bytes
both_within maps layout bytes row other size second is behind =
    let first = row_within maps layout bytes row size is in
    let next : second ≤ length (drop size bytes) = row_within maps layout (drop size bytes) other second (behind ∙ behind_image maps layout bytes size) in
    let left : second ≤ length bytes - size = simp length-drop at next in
    omega arith

pub no_image : (update : Bool) (maps : List ColumnMap) (layout : Layout) (bytes : List ℕ) (fault : RowFault) → Answers {T = List Value × ℕ} is_memory (Err fault) (row_of maps layout bytes) → Answers {T = ℕ} is_memory (Err fault) (change_size update maps layout bytes)
no_image update maps layout bytes fault answers = by (is_memory fault) answers where
  by : (free : Bool) → MatchBool free ⊤ (Err fault ≡ row_of maps layout bytes) → MatchBool free ⊤ (Err fault ≡ change_size update maps layout bytes)
  by true told = told
  by false told = rw (← told) refl

pub no_second : (update : Bool) (maps : List ColumnMap) (layout : Layout) (bytes : List ℕ) (row : List Value) (size : ℕ) (fault : RowFault) → update ≡ true → Ok (row, size) ≡ row_of maps layout bytes
    → Answers {T = List Value × ℕ} is_memory (Err fault) (row_of maps layout (take (length bytes - size) (drop size bytes))) → Answers {T = ℕ} is_memory (Err fault) (change_size update maps layout bytes)
no_second update maps layout bytes row size fault twice is answers = by (is_memory fault) answers where
  by : (free : Bool) → MatchBool free ⊤ (Err fault ≡ row_of maps layout (take (length bytes - size) (drop size bytes))) → MatchBool free ⊤ (Err fault ≡ change_size update maps layout bytes)
  by true told = told
  by false told =
      let there : Err fault ≡ row_of maps layout (drop size bytes) = told ∙ behind_image maps layout bytes size in
      rw (twice, ← is) (rw (← there) refl)
