use Rattle.std.proofs.Common.{arith}
use Rattle.dm_report.specs.Texts.{unique_line}
use Rattle.dm_text.proofs.Joins.{one_more}
use Rattle.dm_report.proofs.text.push_uniques.Goals as goal

pub loop-unique-preserved : goal.loop-unique-preserved
loop-unique-preserved c =
    one_more unique_line c.args.uniques.now c.loop-unique.unique-index c.unique-item.result c.args.out.now.items _ _ (omega arith) c.unique-item.is c.loop-unique.invariant c.in_ok-push_unique.ensures
