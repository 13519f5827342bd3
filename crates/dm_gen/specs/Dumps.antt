-- The dump of a source: the file of its CREATE TABLE, and the file of its rows.
use Rattle.std.specs.Prelude.{ℕ, List, [], map}
use Rattle.dm_value.specs.declared.value.Value.{Value}
use Rattle.dm_text.specs.Names.{quoted}
use Rattle.dm_write.specs.Dumps.{dump_text, insert_text}
use Rattle.dm_gen.specs.Naming.{table_of}
use Rattle.dm_gen.specs.Schemas.{columns_after, schema_after}
use Rattle.dm_gen.specs.Steps.{dumped_rows, row_of}

-- the first so many rows of the dump
abbrev pub dumped : ℕ → ℕ → List (List Value)
dumped source count = map (row_of 0) (dumped_rows source count)

-- a dump without rows
abbrev pub create_file : ℕ → List ℕ
create_file source = dump_text (table_of source) (schema_after 0) []

-- the INSERT line alone
abbrev pub rows_file : ℕ → List ℕ
rows_file source = insert_text (quoted (table_of source)) (columns_after 0) (dumped source 1000)
