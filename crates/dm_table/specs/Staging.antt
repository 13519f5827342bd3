-- A table's rows, and what operations have changed of them so far.
use Rattle.std.specs.Prelude.{◌≡◌, Bool, true, false, ◌&&◌, List, [], ◌∷◌, map, Option, Some, None, is_none, is_some}
use Rattle.std.specs.List.{list_any, filter}
use Rattle.std.specs.FinMap as fin
use Rattle.std.specs.FinMap.{FinMap}
use Rattle.dm_value.specs.Order.{row_cmp}
use Rattle.dm_table.specs.Contents.{Row, RowMap, same_row}

-- by key, the row that was left there, or none where it was removed
abbrev pub ChangeMap : Type 0
ChangeMap = FinMap row_cmp (Option Row)

-- the rows with another one under a key, or with none
abbrev pub changed : RowMap → Row → Option Row → RowMap
changed rows key None = fin.remove rows key
changed rows key (Some row) = fin.insert rows key row

-- the rows behind changes in turn
abbrev pub carried : List (Row × Option Row) → RowMap → RowMap
carried [] rows = rows
carried (e ∷ es) rows = carried es (changed rows e.0 e.1)

pub record Staging : Type 0 where
  pub base : RowMap
  pub changes : ChangeMap

abbrev pub rows_behind : Staging → RowMap
rows_behind staging = carried (fin.entries staging.changes) staging.base

-- the keys of the entries that pass
abbrev pub keys_where : {A : Type 0} → (Row × A → Bool) → List (Row × A) → List Row
keys_where test es = map (λ e. e.0) (filter test es)

-- Carrying changes over to a table's own rows.

-- the keys at which a row was left and none stood
abbrev pub fresh_keys : RowMap → List (Row × Option Row) → List Row
fresh_keys rows = keys_where (λ e. is_some e.1 && is_none (fin.get rows e.0))

-- a row stands wherever a row was left
abbrev pub HasRoom : ChangeMap → RowMap → Type 0
HasRoom changes rows = (key row : Row) → fin.get changes key ≡ Some (Some row) → is_some (fin.get rows key) ≡ true

-- rows were put under keys, and the others stay
pub record IsFilled (keys : List Row) (old new : RowMap) : Type 0 where
  pub elsewhere : (key : Row) → list_any (same_row key) keys ≡ false → fin.get new key ≡ fin.get old key
  pub there : (key : Row) → list_any (same_row key) keys ≡ true → is_some (fin.get new key) ≡ true

abbrev pub removed_all : List Row → RowMap → RowMap
removed_all [] rows = rows
removed_all (key ∷ keys) rows = removed_all keys (fin.remove rows key)
