-- The operations of a change, in plain and in safe mode.
use Rattle.std.specs.Prelude.{List, [], ◌∷◌}
use Rattle.std.specs.List.{flat_map}
use Rattle.dm_value.specs.declared.value.Value.{Value}
use Rattle.dm_schema.specs.declared.row_change.RowChange.{RowChange}
use Rattle.dm_schema.specs.declared.row_change.RowChange.TheVariants as change
use Rattle.dm_schema.specs.Layout.{Layout}
use Rattle.dm_schema.specs.NameOrder.{columns_in_order}
use Rattle.dm_schema.specs.Names.{Text, column_names}
use Rattle.dm_schema.specs.Rows.{key_of, values_at}
use Rattle.dm_table.specs.declared.op.RowOp.{RowOp}
use Rattle.dm_table.specs.declared.op.RowOp.TheVariants as op
use Rattle.dm_safe.specs.declared.mode.Mode.{Mode}
use Rattle.dm_safe.specs.declared.mode.Mode.TheVariants as mode

-- the names of a schema's columns in byte order
abbrev pub names_of : Layout → List Text
names_of layout = column_names (columns_in_order layout.columns)

-- the values of a row in that order
abbrev pub values_of : Layout → List Value → List Value
values_of layout row = values_at layout.columns row (names_of layout)

-- In plain mode each change is the operation of its name.
abbrev pub plain_ops : Layout → RowChange → List RowOp
plain_ops layout (change.Insert new) = op.Insert (names_of layout) (values_of layout new) ∷ []
plain_ops layout (change.Update old new) = op.Update (names_of layout) (key_of layout old) (values_of layout new) ∷ []
plain_ops layout (change.Delete old) = op.Delete (key_of layout old) ∷ []

-- In safe mode a change may have been carried out before: the old row goes if it is there, the new one takes the place of
-- whatever shares a key with it.
abbrev pub safe_ops : Layout → RowChange → List RowOp
safe_ops layout (change.Insert new) = op.Replace (names_of layout) (values_of layout new) ∷ []
safe_ops layout (change.Update old new) = op.Erase (key_of layout old) ∷ op.Replace (names_of layout) (values_of layout new) ∷ []
safe_ops layout (change.Delete old) = op.Erase (key_of layout old) ∷ []

abbrev pub ops_in : Mode → Layout → RowChange → List RowOp
ops_in mode.Plain = plain_ops
ops_in mode.Safe = safe_ops

-- the operations of changes, one after another
abbrev pub ops_of : Layout → List RowChange → Mode → List RowOp
ops_of layout changes m = flat_map (ops_in m layout) changes
