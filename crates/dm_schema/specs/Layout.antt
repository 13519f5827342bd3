-- What a schema is: columns, a primary key (a list of column names), and unique keys.
use Rattle.std.specs.Prelude.{ℕ, List}
use Rattle.dm_schema.specs.declared.column.Column.{Column}
use Rattle.dm_schema.specs.declared.column.UniqueKey.{UniqueKey}

pub record Layout : Type 0 where
  pub columns : List Column
  pub primary : List (List ℕ)
  pub uniques : List UniqueKey
