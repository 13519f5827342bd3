use Rattle.std.proofs.Common.{◌∙◌}
use Rattle.dm_target.proofs.Entries.{puts_begin, puts_one}
use Rattle.dm_target.proofs.Orders.{table_name_total, table_name_exact}
use Rattle.dm_target.proofs.tables.TablesCopied.copy.Goals as goal

pub loop-name-init : goal.loop-name-init
loop-name-init c = puts_begin table_name_total table_name_exact _ _ _ c.new-copy.ensures (c.into_iter-name-iterator.ensures.into_iter_gives.0 ∙ c.in_order-name-items.ensures)

pub loop-name-preserved : goal.loop-name-preserved
loop-name-preserved c =
    puts_one table_name_total table_name_exact c.loop-name.copy c.insert.new.self c.args.self.now c.in-Some.name.now c.in-Some.table.now _ _ c.loop-name.name-iterator c.next.new.self c.in-Some.ensures.steps c.in_ok-copy.ensures c.in_ok-copy-2.ensures
    c.in_ok-insert.ensures c.loop-name.invariant
