use Rattle.std.proofs.Common.{codes}
use Rattle.dm_stmt_read.specs.Readers.{each}
use Rattle.dm_stmt_read.specs.Lines.{condition}
use Rattle.dm_stmt_read.proofs.Loops.{each_more, each_lost, each_ends, exits}
use Rattle.dm_stmt_read.proofs.ops.conditions.Goals as goal

pub returns-in_err-condition : goal.returns-in_err-condition
returns-in_err-condition c =
    exits (each (condition c.args.schema.now.columns) (codes " WHERE ") (codes " AND ") c.args.names.now) c.args.left.now _ c.from_residual.result c.in_err-condition.field-0.0 c.from_residual.ensures.1
    (λ is. each_lost (condition c.args.schema.now.columns) c.loop-name.mark.now (codes " AND ") c.args.names.now c.loop-name.name-index c.name-item.result c.loop-name.values.items c.loop-name.left _
    c.loop-name-test.true c.name-item.is (c.in_err-condition.ensures is) c.loop-name.invariant)

pub loop-name-preserved : goal.loop-name-preserved
loop-name-preserved c =
    each_more (condition c.args.schema.now.columns) c.loop-name.mark.now (codes " AND ") c.args.names.now c.loop-name.name-index c.name-item.result c.in_ok-condition.field-0 c.loop-name.values.items c.push.new.self.items c.loop-name.left c.condition.new.left _
    c.loop-name-test.true c.name-item.is c.in_ok-condition.ensures c.in_ok-push.ensures.items c.loop-name.invariant

pub returns : goal.returns
returns c = each_ends (condition c.args.schema.now.columns) c.loop-name.mark.now (codes " AND ") c.args.names.now c.loop-name.name-index c.loop-name.values.items c.new.result c.loop-name.left _ c.loop-name-test.false c.new.ensures c.loop-name.invariant
