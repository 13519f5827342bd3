-- The text of a record: SQL, each statement on a line of its own.
use Rattle.std.specs.Prelude.{ℕ, List, [], ◌∷◌, ◌++◌, map, codes}
use Rattle.std.specs.List.{flat_map, filter_map, zip}
use Rattle.std.specs.Option.{option_map_or}
use Rattle.dm_value.specs.declared.value.Value.{Value}
use Rattle.dm_schema.specs.declared.change.Change.{Change}
use Rattle.dm_schema.specs.declared.change.Change.TheVariants as change
use Rattle.dm_schema.specs.declared.column.Column.{Column}
use Rattle.dm_schema.specs.declared.table_name.TableName.{TableName}
use Rattle.dm_schema.specs.Layout.{Layout}
use Rattle.dm_schema.specs.Names.{Text, column_at}
use Rattle.dm_text.specs.Columns.{column_text, create_text}
use Rattle.dm_text.specs.Names.{quoted, name_list, table_name_text, with_commas}
use Rattle.dm_text.specs.Values.{string_text, tuple_text, value_text}
use Rattle.dm_table.specs.Contents.{Row}
use Rattle.dm_table.specs.declared.op.RowOp.{RowOp}
use Rattle.dm_table.specs.declared.op.RowOp.TheVariants as op
use Rattle.dm_target.specs.declared.call.Meta.{Meta}
use Rattle.dm_stmt.specs.declared.record.Record.{Record}
use Rattle.dm_stmt.specs.declared.record.Record.TheVariants as record_of
use Rattle.dm_stmt.specs.Known.{KnownMap, schema_in}

-- a piece behind a separator
abbrev pub behind : List ℕ → List ℕ → List ℕ
behind separator piece = separator ++ piece

-- pieces with a separator between them
abbrev pub separated : List ℕ → List (List ℕ) → List ℕ
separated separator [] = []
separated separator (piece ∷ pieces) = piece ++ flat_map (behind separator) pieces

-- several statements that happen whole or not at all
abbrev pub transaction : List ℕ → List ℕ
transaction lines = codes "BEGIN;\n" ++ lines ++ codes "COMMIT;\n"

-- Operations.

-- the columns of these names, in their order
abbrev pub columns_named : List Column → List Text → List Column
columns_named columns names = filter_map (column_at columns) names

-- `name`=value
abbrev pub equation : Column → Value → List ℕ
equation c v = quoted c.name ++ 61 ∷ value_text c.kind v

abbrev pub equations : List Column → List Value → List (List ℕ)
equations columns values = map (λ p. equation p.0 p.1) (zip columns values)

-- the row of a primary key
abbrev pub where_text : Layout → Row → List ℕ
where_text layout key = codes " WHERE " ++ separated (codes " AND ") (equations (columns_named layout.columns layout.primary) key)

-- a new row, behind the word for what becomes of one that is there
abbrev pub row_text : List ℕ → TableName → Layout → List Text → Row → List ℕ
row_text verb table layout names row =
    verb ++ codes " INTO " ++ table_name_text table ++ 32 ∷ name_list names ++ codes " VALUES " ++ tuple_text (columns_named layout.columns names) row ++ codes ";\n"

abbrev pub op_text : TableName → Layout → RowOp → List ℕ
op_text table layout (op.Insert names row) = row_text (codes "INSERT") table layout names row
op_text table layout (op.Replace names row) = row_text (codes "REPLACE") table layout names row
op_text table layout (op.Update names key row) =
    codes "UPDATE " ++ table_name_text table ++ codes " SET " ++ with_commas (equations (columns_named layout.columns names) row) ++ where_text layout key ++ codes " LIMIT 1;\n"
op_text table layout (op.Delete key) = codes "DELETE FROM " ++ table_name_text table ++ where_text layout key ++ codes " LIMIT 1;\n"
op_text table layout (op.Erase key) = codes "DELETE FROM " ++ table_name_text table ++ where_text layout key ++ codes ";\n"

-- Changes of a schema; those that no alteration has are not written.
abbrev pub change_text : Change → List ℕ
change_text (change.Add column spot) = codes "ADD COLUMN " ++ column_text column
change_text (change.Drop name) = codes "DROP COLUMN " ++ quoted name
change_text (change.Modify column spot null_written) = codes "MODIFY COLUMN " ++ column_text column
change_text (change.AddUnique key named) = codes "ADD UNIQUE KEY " ++ quoted key.name ++ 32 ∷ name_list key.columns
change_text (change.DropKey name) = codes "DROP INDEX " ++ quoted name
change_text _ = []

abbrev pub alter_text : TableName → List Change → List ℕ
alter_text table changes = codes "ALTER TABLE " ++ table_name_text table ++ 32 ∷ separated (codes ", ") (map change_text changes) ++ codes ";\n"

-- a text under a name, in the table of such texts
abbrev pub meta_text : Meta → List ℕ
meta_text pair = codes "REPLACE INTO `dm_meta`.`state` (`name`,`text`) VALUES (" ++ string_text pair.name ++ 44 ∷ string_text pair.text ++ codes ");\n"

-- The text of a record. Where the table of operations isn't known, there is none.
abbrev pub record_text : KnownMap → Record → List ℕ
record_text known (record_of.Create table layout) = create_text (table_name_text table) layout
record_text known (record_of.Alter table changes) = alter_text table changes
record_text known (record_of.Apply table ops) = option_map_or (λ layout. transaction (flat_map (op_text table layout) ops)) (schema_in known table) []
record_text known (record_of.Metas pairs) = transaction (flat_map meta_text pairs)
