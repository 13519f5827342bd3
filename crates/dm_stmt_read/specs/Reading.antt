-- Which texts are records, and of what.
use Rattle.std.specs.Prelude.{◌≡◌, ℕ, Bool, true, ◌&&◌, nat_le, List, IsTrue}
use Rattle.std.specs.List.{list_all}
use Rattle.dm_value.specs.declared.value.Value.{Value}
use Rattle.dm_schema.specs.declared.change.Change.{Change}
use Rattle.dm_schema.specs.declared.change.Change.TheVariants as change
use Rattle.dm_schema.specs.declared.column.Column.{Column}
use Rattle.dm_schema.specs.declared.column.Kind.{Kind}
use Rattle.dm_schema.specs.declared.column.Kind.TheVariants as kind
use Rattle.dm_reread.specs.Parts.{has_bytes, default_has_bytes}
use Rattle.dm_table.specs.declared.op.RowOp.{RowOp}
use Rattle.dm_table.specs.declared.op.RowOp.TheVariants as op
use Rattle.dm_stmt.specs.declared.record.Record.{Record}
use Rattle.dm_stmt.specs.declared.record.Record.TheVariants as record_of
use Rattle.dm_stmt.specs.Known.{KnownMap}
use Rattle.dm_stmt.specs.Records.{is_record}
use Rattle.dm_stmt.specs.Texts.{record_text}

-- What a record's types say of its numbers: bytes have 8 bits, and lengths of columns 16. A list of numbers needn't be
-- bytes in a definition.

abbrev pub has_length : Kind → Bool
has_length (kind.Varchar most) = nat_le most 65535
has_length (kind.Varbinary most) = nat_le most 65535
has_length _ = true

abbrev pub is_typed_column : Column → Bool
is_typed_column column = has_length column.kind && default_has_bytes column

abbrev pub is_typed_change : Change → Bool
is_typed_change (change.Add column spot) = is_typed_column column
is_typed_change (change.Modify column spot null_written) = is_typed_column column
is_typed_change _ = true

abbrev pub are_typed : List Value → Bool
are_typed values = list_all has_bytes values

abbrev pub is_typed_op : RowOp → Bool
is_typed_op (op.Insert names row) = are_typed row
is_typed_op (op.Replace names row) = are_typed row
is_typed_op (op.Update names key row) = are_typed key && are_typed row
is_typed_op (op.Delete key) = are_typed key
is_typed_op (op.Erase key) = are_typed key

abbrev pub is_typed : Record → Bool
is_typed (record_of.Create table layout) = list_all is_typed_column layout.columns
is_typed (record_of.Alter table changes) = list_all is_typed_change changes
is_typed (record_of.Apply table ops) = list_all is_typed_op ops
is_typed (record_of.Metas pairs) = true

-- The text is the record's, over the schemas that are known.
abbrev pub IsTextOf : KnownMap → List ℕ → Record → Type 0
IsTextOf known text said = IsTrue (is_record known said) × IsTrue (is_typed said) × (record_text known said ≡ text)
