use Rattle.std.proofs.Common.{arith, rules}
use Rattle.dm_walk.proofs.Sizes.{both_within, row_within, two_images}
use Rattle.dm_walk.proofs.rows.change_size.Goals as goal

pub returns-then-not-update-clause-within : goal.returns-then-not-update-clause-within
returns-then-not-update-clause-within c = row_within c.args.table.now.columns c.args.schema.now c.args.bytes.now _ c.in_ok-_row.size c.in_ok-_row.ensures

pub slice_bounds-decode_row-count : goal.slice_bounds-decode_row-count
slice_bounds-decode_row-count c = row_within c.args.table.now.columns c.args.schema.now c.args.bytes.now _ c.in_ok-_row.size c.in_ok-_row.ensures

pub slice_bounds-decode_row-start : goal.slice_bounds-decode_row-start
slice_bounds-decode_row-start c = let within = row_within c.args.table.now.columns c.args.schema.now c.args.bytes.now _ c.in_ok-_row.size c.in_ok-_row.ensures in search (rules, within)

pub overflow_add-result : goal.overflow_add-result
overflow_add-result c =
    let within = both_within c.args.table.now.columns c.args.schema.now c.args.bytes.now _ _ c.in_ok-_row.size c.in_ok-_row-2.second c.in_ok-_row.ensures c.in_ok-_row-2.ensures in
    omega arith

pub returns : goal.returns
returns c = record {
  value = two_images c.args.update c.args.table.now.columns c.args.schema.now c.args.bytes.now _ _ c.in_ok-_row.size c.in_ok-_row-2.second c.if-not-update.false c.in_ok-_row.ensures c.in_ok-_row-2.ensures;
  within = both_within c.args.table.now.columns c.args.schema.now c.args.bytes.now _ _ c.in_ok-_row.size c.in_ok-_row-2.second c.in_ok-_row.ensures c.in_ok-_row-2.ensures;
}
