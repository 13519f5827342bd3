use Rattle.std.proofs.Common.{◌∙◌}
use Rattle.dm_table.proofs.Entries.{puts_begin, puts_one}
use Rattle.dm_table.proofs.keyed.KeyedRowsCopied.copy.Goals as goal

pub loop-key-init : goal.loop-key-init
loop-key-init c = puts_begin _ _ _ c.new-copy.ensures (c.into_iter-key-iterator.ensures.into_iter_gives.0 ∙ c.in_order-key-items.ensures)

pub loop-key-preserved : goal.loop-key-preserved
loop-key-preserved c =
    puts_one c.loop-key.copy c.insert.new.self c.args.self.now c.in-Some.key.now c.in-Some.row.now _ _ c.loop-key.key-iterator c.next.new.self c.in-Some.ensures.steps c.in_ok-copy.ensures c.in_ok-copy-2.ensures c.in_ok-insert.ensures.put
    c.loop-key.invariant
