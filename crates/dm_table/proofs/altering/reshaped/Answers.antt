use Rattle.std.proofs.Common.{List, map, ap, ◌∙◌}
use Rattle.dm_table.specs.Contents.{Row}
use Rattle.dm_table.specs.Alterations.{reshaped_row}
use Rattle.dm_table.proofs.Entries.{puts_begin_mapped, puts_one}
use Rattle.dm_table.proofs.altering.reshaped.Goals as goal

pub loop-key-init : goal.loop-key-init
loop-key-init c = puts_begin_mapped (reshaped_row c.args.before.now c.args.after.now) _ _ _ c.new-made.ensures (c.into_iter-key-iterator.ensures.into_iter_gives.0 ∙ c.in_order-key-items.ensures)

pub loop-key-preserved : goal.loop-key-preserved
loop-key-preserved c =
    puts_one c.loop-key.made c.insert.new.self _ c.in-Some.key.now (reshaped_row c.args.before.now c.args.after.now c.in-Some.row.now) _ _ _ (map (λ e. (e.0, reshaped_row c.args.before.now c.args.after.now e.1)) c.next.new.self)
    (ap (λ (es : List (Row × Row)). map (λ (e : Row × Row). (e.0, reshaped_row c.args.before.now c.args.after.now e.1)) es) c.in-Some.ensures.steps) c.in_ok-copy.ensures c.in_ok-row.ensures c.in_ok-insert.ensures.put c.loop-key.invariant
