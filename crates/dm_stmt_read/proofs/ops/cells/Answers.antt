use Rattle.std.proofs.Common.{codes}
use Rattle.dm_stmt_read.specs.Readers.{each}
use Rattle.dm_stmt_read.specs.Lines.{marked_cell}
use Rattle.dm_stmt_read.proofs.Loops.{each_more, each_lost, each_ends, exits}
use Rattle.dm_stmt_read.proofs.ops.cells.Goals as goal

pub returns-in_err-marked_cell : goal.returns-in_err-marked_cell
returns-in_err-marked_cell c =
    exits (each (marked_cell c.args.schema.now.columns) (codes " VALUES (") (codes ",") c.args.names.now) c.args.left.now _ c.from_residual.result c.in_err-marked_cell.field-0.0 c.from_residual.ensures.1
    (λ is. each_lost (marked_cell c.args.schema.now.columns) c.loop-name.mark.now (codes ",") c.args.names.now c.loop-name.name-index c.name-item.result c.loop-name.values.items c.loop-name.left _
    c.loop-name-test.true c.name-item.is (c.in_err-marked_cell.ensures is) c.loop-name.invariant)

pub loop-name-preserved : goal.loop-name-preserved
loop-name-preserved c =
    each_more (marked_cell c.args.schema.now.columns) c.loop-name.mark.now (codes ",") c.args.names.now c.loop-name.name-index c.name-item.result c.in_ok-marked_cell.field-0 c.loop-name.values.items c.push.new.self.items c.loop-name.left c.marked_cell.new.left _
    c.loop-name-test.true c.name-item.is c.in_ok-marked_cell.ensures c.in_ok-push.ensures.items c.loop-name.invariant

pub returns : goal.returns
returns c = each_ends (marked_cell c.args.schema.now.columns) c.loop-name.mark.now (codes ",") c.args.names.now c.loop-name.name-index c.loop-name.values.items c.new.result c.loop-name.left _ c.loop-name-test.false c.new.ensures c.loop-name.invariant
