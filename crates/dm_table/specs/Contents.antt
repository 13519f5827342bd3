-- What a table holds: rows under their primary keys.
use Rattle.std.specs.Prelude.{◌≡◌, Bool, true, not, ◌&&◌, List, length, Some}
use Rattle.std.specs.Ordering.{eq_by_cmp}
use Rattle.std.specs.List.{list_any, list_all, zip}
use Rattle.std.specs.FinMap as fin
use Rattle.std.specs.FinMap.{FinMap}
use Rattle.dm_value.specs.declared.value.Value.{Value}
use Rattle.dm_value.specs.Order.{row_cmp}
use Rattle.dm_schema.specs.declared.column.Column.{Column}
use Rattle.dm_schema.specs.declared.column.UniqueKey.{UniqueKey}
use Rattle.dm_schema.specs.Layout.{Layout}
use Rattle.dm_schema.specs.Fits.{fits}
use Rattle.dm_schema.specs.Kinds.{is_null}
use Rattle.dm_schema.specs.Rows.{key_of, values_at}

-- the values of a row in the order of the columns, or those of a key in the order of the primary key
abbrev pub Row : Type 0
Row = List Value

abbrev pub same_row : Row → Row → Bool
same_row = eq_by_cmp row_cmp

-- rows under their primary keys
abbrev pub RowMap : Type 0
RowMap = FinMap row_cmp Row

pub record TableContent : Type 0 where
  pub layout : Layout
  pub rows : RowMap

-- a table without rows
abbrev pub new_table : Layout → TableContent
new_table layout = record { layout = layout; rows = fin.empty }

-- two rows have the same values under a unique key, none of them NULL
abbrev pub agree_in : UniqueKey → List Column → Row → Row → Bool
agree_in key columns a b =
    not (list_any is_null (values_at columns a key.columns)) && same_row (values_at columns a key.columns) (values_at columns b key.columns)

-- two rows agree in a unique key
abbrev pub share_unique : Layout → Row → Row → Bool
share_unique layout a b = list_any (λ key. agree_in key layout.columns a b) layout.uniques

-- each value fits its column, and there is one for each
abbrev pub fits_row : List Column → Row → Bool
fits_row columns row = list_all (λ p. fits p.0 p.1) (zip row columns)

-- What holds of the rows of every table: each has a value for each column, which fits, and stands under its own key; no two
-- agree in a unique key.
pub record AreRows (layout : Layout) (rows : RowMap) : Type 0 where
  pub long : (key row : Row) → fin.get rows key ≡ Some row → length row ≡ length layout.columns
  pub fit : (key row : Row) → fin.get rows key ≡ Some row → fits_row layout.columns row ≡ true
  pub keyed : (key row : Row) → fin.get rows key ≡ Some row → same_row (key_of layout row) key ≡ true
  pub apart : (key other a b : Row) → fin.get rows key ≡ Some a → fin.get rows other ≡ Some b → share_unique layout a b ≡ true → same_row key other ≡ true
