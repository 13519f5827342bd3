-- A table as a dump in SQL: the statement that makes it, and one with its rows.
use Rattle.std.specs.Prelude.{ℕ, List, [], ◌∷◌, ◌++◌, map, codes}
use Rattle.dm_value.specs.declared.value.Value.{Value}
use Rattle.dm_schema.specs.declared.column.Column.{Column}
use Rattle.dm_schema.specs.Layout.{Layout}
use Rattle.dm_text.specs.Names.{with_commas, quoted}
use Rattle.dm_text.specs.Values.{tuple_text}
use Rattle.dm_text.specs.Columns.{create_text}

-- the tuples of rows, with commas between them
abbrev pub tuples_text : List Column → List (List Value) → List ℕ
tuples_text columns rows = with_commas (map (tuple_text columns) rows)

-- INSERT INTO name VALUES (value,value),(value,value);
abbrev pub insert_text : List ℕ → List Column → List (List Value) → List ℕ
insert_text name columns rows = codes "INSERT INTO " ++ name ++ codes " VALUES " ++ tuples_text columns rows ++ codes ";\n"

-- rows that are there stand in one statement
abbrev pub rows_text : List ℕ → List Column → List (List Value) → List ℕ
rows_text name columns [] = []
rows_text name columns (row ∷ rows) = insert_text name columns (row ∷ rows)

-- the table's name stands without a database
abbrev pub dump_text : List ℕ → Layout → List (List Value) → List ℕ
dump_text table layout rows = create_text (quoted table) layout ++ rows_text (quoted table) layout.columns rows
