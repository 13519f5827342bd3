-- How alterations, operations and records are read. It serves the proof alone.
use Rattle.std.specs.Prelude.{ℕ, true, List, [], ◌∷◌, codes, Option, Some, None, if◌then◌else◌}
use Rattle.dm_value.specs.declared.value.Value.{Value}
use Rattle.dm_schema.specs.declared.change.Change.{Change}
use Rattle.dm_schema.specs.declared.change.Change.TheVariants as change_of
use Rattle.dm_schema.specs.declared.change.Spot.TheVariants as spot
use Rattle.dm_schema.specs.declared.column.Column.{Column}
use Rattle.dm_schema.specs.declared.table_name.TableName.{TableName}
use Rattle.dm_schema.specs.Layout.{Layout}
use Rattle.dm_schema.specs.Names.{Text, column_at}
use Rattle.dm_table.specs.declared.op.RowOp.{RowOp}
use Rattle.dm_table.specs.declared.op.RowOp.TheVariants as op_of
use Rattle.dm_target.specs.declared.call.Meta.{Meta}
use Rattle.dm_stmt.specs.declared.record.Record.{Record}
use Rattle.dm_stmt.specs.declared.record.Record.TheVariants as record_of
use Rattle.dm_stmt.specs.Known.{KnownMap, schema_in}
use Rattle.dm_target.specs.Asking.{is_meta_table}
use Rattle.dm_stmt_read.specs.declared.ops.Verb.{Verb}
use Rattle.dm_stmt_read.specs.declared.ops.Verb.TheVariants as verb_of
use Rattle.dm_stmt_read.specs.Readers.{Reader, just, given, ◌>>=◌, ahead, further, further_pairs, each, one_if, accept, expect, value, string, name, names, table_name}
use Rattle.dm_stmt_read.specs.Columns.{column, unique_key, layout}

-- Changes.

-- a change of a key
unfoldable pub key_change : Reader Change
key_change =
    accept (codes "ADD UNIQUE KEY ") >>= λ is. if is then (unique_key >>= λ key. just (change_of.AddUnique key true)) else (
    expect (codes "DROP INDEX ") >>= λ _. name >>= λ name. just (change_of.DropKey name))

unfoldable pub change : Reader Change
change =
    accept (codes "ADD COLUMN ") >>= λ is. if is then (column >>= λ c. just (change_of.Add c spot.Last)) else (
    accept (codes "DROP COLUMN ") >>= λ is. if is then (name >>= λ name. just (change_of.Drop name)) else (
    accept (codes "MODIFY COLUMN ") >>= λ is. if is then (column >>= λ c. just (change_of.Modify c spot.Keep c.nullable)) else key_change))

unfoldable pub next_change : Reader (Option Change)
next_change = accept (codes ", ") >>= one_if change

-- an alteration behind its words
unfoldable pub alter : Reader Record
alter =
    table_name >>= λ table.
    expect (codes " ") >>= λ _.
    change >>= λ first.
    further next_change (first ∷ []) >>= λ changes.
    expect (codes ";\n") >>= λ _.
    just (record_of.Alter table changes)

-- a new table behind its words
unfoldable pub create : Reader Record
create =
    table_name >>= λ table.
    expect (codes " (") >>= λ _.
    layout >>= λ layout.
    expect (codes ");\n") >>= λ _.
    just (record_of.Create table layout)

-- Operations.

unfoldable pub read_verb : Reader (Option Verb)
read_verb =
    accept (codes "INSERT INTO ") >>= λ is. if is then just (Some verb_of.Insert) else (
    accept (codes "REPLACE INTO ") >>= λ is. if is then just (Some verb_of.Replace) else (
    accept (codes "UPDATE ") >>= λ is. if is then just (Some verb_of.Update) else (
    accept (codes "DELETE FROM ") >>= λ is. if is then just (Some verb_of.Delete) else just None)))

-- what a line does, and to which table
unfoldable pub head : Reader (Verb × TableName)
head = read_verb >>= λ verb. given verb >>= λ verb. table_name >>= λ table. just (verb, table)

-- a value of the column of a name
unfoldable pub cell : List Column → Text → Reader Value
cell columns name = given (column_at columns name) >>= λ c. value c.kind

-- a value behind a mark
unfoldable pub marked_cell : List Column → List ℕ → Text → Reader Value
marked_cell columns mark name = expect mark >>= λ _. cell columns name

-- the values of columns in turn
abbrev pub cells : List Column → List ℕ → List Text → Reader (List Value)
cells columns mark names = each (marked_cell columns) mark (codes ",") names

-- names and values, as a new row has them
unfoldable pub row : List Column → Reader (List Text × List Value)
row columns =
    expect (codes " ") >>= λ _.
    names >>= λ names.
    cells columns (codes " VALUES (") names >>= λ values.
    expect (codes ");\n") >>= λ _.
    just (names, values)

-- a name and its value
unfoldable pub assignment : List Column → Reader (Text × Value)
assignment columns =
    name >>= λ name.
    expect (codes "=") >>= λ _.
    cell columns name >>= λ v.
    just (name, v)

unfoldable pub next_assignment : List Column → Reader (Option (Text × Value))
next_assignment columns = accept (codes ",") >>= one_if (assignment columns)

-- names and their values, parted by commas
unfoldable pub assignments : List Column → Reader (List Text × List Value)
assignments columns = assignment columns >>= λ first. further_pairs (next_assignment columns) (first.0 ∷ []) (first.1 ∷ [])

-- a value of a named column, behind a mark
unfoldable pub condition : List Column → List ℕ → Text → Reader Value
condition columns mark column =
    expect mark >>= λ _.
    name >>= λ _.
    expect (codes "=") >>= λ _.
    cell columns column

-- the values of a key in turn
abbrev pub conditions : List Column → List ℕ → List Text → Reader (List Value)
conditions columns mark names = each (condition columns) mark (codes " AND ") names

-- the key of a row
unfoldable pub key : Layout → Reader (List Value)
key layout = conditions layout.columns (codes " WHERE ") layout.primary

unfoldable pub update : Layout → Reader RowOp
update layout =
    expect (codes " SET ") >>= λ _.
    assignments layout.columns >>= λ new.
    key layout >>= λ key.
    expect (codes " LIMIT 1;\n") >>= λ _.
    just (op_of.Update new.0 key new.1)

unfoldable pub delete : Layout → Reader RowOp
delete layout =
    key layout >>= λ key.
    accept (codes " LIMIT 1;\n") >>= λ one.
    if one then just (op_of.Delete key) else (expect (codes ";\n") >>= λ _. just (op_of.Erase key))

-- what a line does, behind its table
unfoldable pub op_by : Layout → Verb → Reader RowOp
op_by layout verb_of.Insert = row layout.columns >>= λ new. just (op_of.Insert new.0 new.1)
op_by layout verb_of.Replace = row layout.columns >>= λ new. just (op_of.Replace new.0 new.1)
op_by layout verb_of.Update = update layout
op_by layout verb_of.Delete = delete layout

unfoldable pub op : Layout → Reader RowOp
op layout = head >>= λ head. op_by layout head.0

-- one more line, up to the end
unfoldable pub next_op : Layout → Reader (Option RowOp)
next_op layout = accept (codes "COMMIT;\n") >>= λ ends. if ends then just None else (op layout >>= λ op. just (Some op))

-- Texts under names.

-- a name and its text, behind the bracket
unfoldable pub pair : Reader Meta
pair =
    string >>= λ name.
    expect (codes ",") >>= λ _.
    string >>= λ text.
    expect (codes ");\n") >>= λ _.
    just (record { name = name; text = text })

unfoldable pub meta : Reader Meta
meta = head >>= λ _. expect (codes " (`name`,`text`) VALUES (") >>= λ _. pair

unfoldable pub next_meta : Reader (Option Meta)
next_meta = accept (codes "COMMIT;\n") >>= λ ends. if ends then just None else (meta >>= λ pair. just (Some pair))

-- Records.

-- the lines of a transaction that begins with such a table
unfoldable pub lines : KnownMap → TableName → Reader Record
lines known table =
    if is_meta_table table then (further next_meta [] >>= λ pairs. just (record_of.Metas pairs)) else (
    given (schema_in known table) >>= λ layout. further (next_op layout) [] >>= λ ops. just (record_of.Apply table ops))

unfoldable pub transaction : KnownMap → Reader Record
transaction known = expect (codes "BEGIN;\n") >>= λ _. ahead head >>= λ head. lines known head.1

-- a record that makes no table
unfoldable pub later_record : KnownMap → Reader Record
later_record known = accept (codes "ALTER TABLE ") >>= λ is. if is then alter else transaction known

unfoldable pub any_record : KnownMap → Reader Record
any_record known = accept (codes "CREATE TABLE ") >>= λ is. if is then create else later_record known
