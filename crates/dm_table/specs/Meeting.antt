-- Which rows an operation can meet.
use Rattle.std.specs.Prelude.{Bool, false, ◌||◌}
use Rattle.std.specs.Option.{option_map_or}
use Rattle.std.specs.FinMap as fin
use Rattle.dm_schema.specs.Layout.{Layout}
use Rattle.dm_schema.specs.Rows.{key_of}
use Rattle.dm_table.specs.declared.op.RowOp.{RowOp}
use Rattle.dm_table.specs.declared.op.RowOp.TheVariants as op
use Rattle.dm_table.specs.Contents.{Row, RowMap, same_row, share_unique}
use Rattle.dm_table.specs.Operations.{left_row}

-- Behind an operation the row of this key may be another, or be gone: it is the key that is asked for, or that of the row
-- that the operation leaves; or, for a replacement, its row agrees with that row in a unique key.
abbrev pub meets : Layout → RowOp → RowMap → Row → Bool
meets layout (op.Insert columns row) rows key = same_row (key_of layout (left_row layout (op.Insert columns row) rows)) key
meets layout (op.Replace columns row) rows key =
    same_row (key_of layout (left_row layout (op.Replace columns row) rows)) key
    || option_map_or (share_unique layout (left_row layout (op.Replace columns row) rows)) (fin.get rows key) false
meets layout (op.Update columns asked row) rows key = same_row asked key || same_row (key_of layout (left_row layout (op.Update columns asked row) rows)) key
meets layout (op.Delete asked) rows key = same_row asked key
meets layout (op.Erase asked) rows key = same_row asked key
