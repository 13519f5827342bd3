-- What an alteration keeps of a table's rows.
use Rattle.std.specs.Prelude.{◌≡◌, true, false, Some, is_some, IsSome}
use Rattle.std.specs.FinMap as fin
use Rattle.dm_value.specs.declared.value.Value.{Value}
use Rattle.dm_schema.specs.declared.column.Column.{Column}
use Rattle.dm_schema.specs.Names.{Text, column_at, has_column}
use Rattle.dm_schema.specs.Fill.{fill}
use Rattle.dm_schema.specs.Rows.{cell}
use Rattle.dm_table.specs.Contents.{Row, TableContent}

-- Under each key a row stands where one stood. In it a column that stays keeps its value, and a new one has its fill.
pub record Follows (before after : TableContent) : Type 0 where
  pub there : (key : Row) → is_some (fin.get after.rows key) ≡ is_some (fin.get before.rows key)
  pub stays : (key row made : Row) (name : Text) (v : Value) → fin.get before.rows key ≡ Some row → fin.get after.rows key ≡ Some made
      → has_column after.layout.columns name ≡ true → cell before.layout.columns row name ≡ Some v → cell after.layout.columns made name ≡ Some v
  pub filled : (key made : Row) (name : Text) (c : Column) → fin.get after.rows key ≡ Some made
      → has_column before.layout.columns name ≡ false → column_at after.layout.columns name ≡ Some c → (cell after.layout.columns made name ≡ fill c) × IsSome (fill c)
