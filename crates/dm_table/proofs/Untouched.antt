-- An operation leaves each row alone that it can't meet.
use Rattle.std.proofs.Common.{◌≡◌, false, Some, None, Ok, sym, ap, ◌∙◌}
use Rattle.std.specs.FinMap as fin
use Rattle.std.specs.FinMap.{get-insert, get-remove}
use Rattle.std.specs.Option.{option_map_or}
use Rattle.std.proofs.lemmas.Bool.{or_parts, cond-false}
use Rattle.dm_value.proofs.OrderLemmas.{row_total}
use Rattle.dm_schema.specs.Layout.{Layout}
use Rattle.dm_schema.specs.Rows.{key_of}
use Rattle.dm_table.specs.declared.op.RowOp.{RowOp}
use Rattle.dm_table.specs.declared.op.RowOp.TheVariants as op
use Rattle.dm_table.specs.Contents.{Row, RowMap, same_row, share_unique}
use Rattle.dm_table.specs.Operations.{effect, applied, left_row, without_sharing}
use Rattle.dm_table.specs.Meeting.{meets}
use Rattle.dm_table.proofs.Filtered.{same_turned, stays_apart}
use Rattle.dm_table.proofs.Taken.{leaves}

put_elsewhere : (m : RowMap) (k v q : Row) → same_row k q ≡ false → fin.get (fin.insert m k v) q ≡ fin.get m q
put_elsewhere m k v q other = get-insert row_total m k v q ∙ cond-false (same_row q k) (Some v) (fin.get m q) (same_turned q k ∙ other)

removed_elsewhere : (m : RowMap) (k q : Row) → same_row k q ≡ false → fin.get (fin.remove m k) q ≡ fin.get m q
removed_elsewhere m k q other = get-remove row_total m k q ∙ cond-false (same_row q k) None (fin.get m q) (same_turned q k ∙ other)

alone : (layout : Layout) (o : RowOp) (rows : RowMap) (q : Row) → meets layout o rows q ≡ false → fin.get (effect layout o rows) q ≡ fin.get rows q
alone layout (op.Insert columns row) rows q apart = let made = left_row layout (op.Insert columns row) rows in put_elsewhere rows (key_of layout made) made q apart
alone layout (op.Replace columns row) rows q apart =
    let made = left_row layout (op.Replace columns row) rows in
    let parts = or_parts (same_row (key_of layout made) q) (option_map_or (share_unique layout made) (fin.get rows q) false) apart in
    put_elsewhere (without_sharing layout made rows) (key_of layout made) made q parts.0 ∙ stays_apart layout made rows q parts.0 parts.1
alone layout (op.Update columns asked row) rows q apart =
    let made = left_row layout (op.Update columns asked row) rows in
    let parts = or_parts (same_row asked q) (same_row (key_of layout made) q) apart in
    put_elsewhere (fin.remove rows asked) (key_of layout made) made q parts.1 ∙ removed_elsewhere rows asked q parts.0
alone layout (op.Delete asked) rows q apart = removed_elsewhere rows asked q apart
alone layout (op.Erase asked) rows q apart = removed_elsewhere rows asked q apart

pub untouched : (layout : Layout) (o : RowOp) (rows after : RowMap) → applied layout o rows ≡ Ok after → (q : Row) → meets layout o rows q ≡ false → fin.get after q ≡ fin.get rows q
untouched layout o rows after goes q apart = ap (λ (m : RowMap). fin.get m q) (sym (leaves layout o rows after goes)) ∙ alone layout o rows q apart
