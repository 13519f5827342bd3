-- The text of a table: its columns, its primary key, its unique keys, the number of its rows, and the rows.
use Rattle.std.specs.Prelude.{ℕ, List, ◌++◌, codes}
use Rattle.std.specs.List.{flat_map}
use Rattle.std.specs.Fmt.{decimal}
use Rattle.dm_value.specs.declared.value.Value.{Value}
use Rattle.dm_schema.specs.declared.column.Column.{Column}
use Rattle.dm_schema.specs.declared.column.UniqueKey.{UniqueKey}
use Rattle.dm_text.specs.Names.{quoted, name_list}
use Rattle.dm_text.specs.Values.{tuple_text}
use Rattle.dm_text.specs.Columns.{column_text}

-- column `name` TYPE NULL DEFAULT value
abbrev pub column_line : Column → List ℕ
column_line c = codes "column " ++ column_text c ++ codes "\n"

-- primary (`a`,`b`)
abbrev pub primary_line : List (List ℕ) → List ℕ
primary_line names = codes "primary " ++ name_list names ++ codes "\n"

-- unique `k` (`a`,`b`)
abbrev pub unique_line : UniqueKey → List ℕ
unique_line k = codes "unique " ++ quoted k.name ++ codes " " ++ name_list k.columns ++ codes "\n"

-- rows 3
abbrev pub count_line : ℕ → List ℕ
count_line count = codes "rows " ++ decimal count ++ codes "\n"

-- the lines of the columns, of the primary key, of the unique keys and of the number of rows
abbrev pub head_text : List Column → List (List ℕ) → List UniqueKey → ℕ → List ℕ
head_text columns primary uniques count = flat_map column_line columns ++ primary_line primary ++ flat_map unique_line uniques ++ count_line count

-- row (value,value)
abbrev pub row_line : List Column → List Value → List ℕ
row_line columns row = codes "row " ++ tuple_text columns row ++ codes "\n"

-- the whole text, with the rows
abbrev pub table_text : List Column → List (List ℕ) → List UniqueKey → List (List Value) → ℕ → List ℕ
table_text columns primary uniques rows count = head_text columns primary uniques count ++ flat_map (row_line columns) rows
