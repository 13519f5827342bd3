-- Going over rows, and noting their values under a unique key.
use Rattle.std.specs.Prelude.{◌≡◌, Bool, false, not, ◌||◌, List, [], ◌∷◌, if◌then◌else◌}
use Rattle.std.specs.List.{list_any}
use Rattle.std.specs.Prelude.{is_some}
use Rattle.std.specs.FinMap as fin
use Rattle.dm_schema.specs.declared.column.Column.{Column}
use Rattle.dm_schema.specs.declared.column.UniqueKey.{UniqueKey}
use Rattle.dm_schema.specs.Kinds.{is_null}
use Rattle.dm_schema.specs.Rows.{values_at}
use Rattle.dm_table.specs.Contents.{Row, RowMap, same_row}

-- a row's values under a unique key
abbrev pub under : UniqueKey → List Column → Row → Row
under key columns row = values_at columns row key.columns

abbrev pub has_values : UniqueKey → List Column → Row → Bool
has_values key columns row = not (list_any is_null (under key columns row))

-- some row has values that were seen before it
abbrev pub seen_again : UniqueKey → List Column → (Row → Bool) → List Row → Bool
seen_again key columns seen [] = false
seen_again key columns seen (row ∷ rows) =
    if has_values key columns row then seen (under key columns row) || seen_again key columns (λ values. seen values || same_row values (under key columns row)) rows
    else seen_again key columns seen rows

-- values are noted in a map, where they may have been before
pub record IsNoted (old : RowMap) (values : Row) (again : Bool) (new : RowMap) : Type 0 where
  pub before : again ≡ is_some (fin.get old values)
  pub noted : again ≡ false → new ≡ fin.insert old values values
