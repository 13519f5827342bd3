use Rattle.std.proofs.Common.{arith}
use Rattle.dm_report.specs.Texts.{column_line}
use Rattle.dm_text.proofs.Joins.{one_more}
use Rattle.dm_report.proofs.text.push_columns.Goals as goal

pub loop-column-preserved : goal.loop-column-preserved
loop-column-preserved c =
    one_more column_line c.args.columns.now c.loop-column.column-index c.column-item.result c.args.out.now.items _ _ (omega arith) c.column-item.is c.loop-column.invariant c.in_ok-push_column_line.ensures
