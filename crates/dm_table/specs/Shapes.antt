-- What is asked of an operation, whatever its table holds.
use Rattle.std.specs.Prelude.{Bool, not, ◌&&◌, ◌==◌, List, length}
use Rattle.dm_schema.specs.Layout.{Layout}
use Rattle.dm_schema.specs.Names.{Text}
use Rattle.dm_schema.specs.Schemas.{names_repeat}
use Rattle.dm_table.specs.Contents.{Row}
use Rattle.dm_table.specs.declared.op.RowOp.{RowOp}
use Rattle.dm_table.specs.declared.op.RowOp.TheVariants as op

-- one column at least, none twice, with a value for each
abbrev pub pairs_up : List Text → Row → Bool
pairs_up names row = not (length names == 0) && not (names_repeat names) && length row == length names

-- a value for each column of the primary key
abbrev pub is_key_shaped : Layout → Row → Bool
is_key_shaped layout key = length key == length layout.primary

abbrev pub is_shaped : Layout → RowOp → Bool
is_shaped layout (op.Insert names row) = pairs_up names row
is_shaped layout (op.Replace names row) = pairs_up names row
is_shaped layout (op.Update names key row) = pairs_up names row && is_key_shaped layout key
is_shaped layout (op.Delete key) = is_key_shaped layout key
is_shaped layout (op.Erase key) = is_key_shaped layout key
