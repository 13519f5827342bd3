use Rattle.std.proofs.Common.{sym, ◌∙◌}
use Rattle.dm_gen.proofs.Ranges.{dumped_none, dumped_pushed}
use Rattle.dm_gen.proofs.walker.dumped_rows.Goals as goal

pub loop-number-init : goal.loop-number-init
loop-number-init c = c.in_ok-rows.ensures.items ∙ sym (dumped_none c.args.source)

pub loop-number-preserved : goal.loop-number-preserved
loop-number-preserved c = dumped_pushed c.args.source c.loop-number.number c.loop-number.rows.items c.push.new.self.items _ c.loop-number.invariant c.dumped_row.ensures c.in_ok-push.ensures.items
