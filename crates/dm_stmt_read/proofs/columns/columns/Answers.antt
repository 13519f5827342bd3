use Rattle.std.proofs.Common.{[]}
use Rattle.dm_stmt_read.specs.Readers.{further}
use Rattle.dm_stmt_read.specs.Columns.{next_column}
use Rattle.dm_stmt_read.proofs.Loops.{one_more, no_more, lost, all_turns, exits}
use Rattle.dm_stmt_read.proofs.columns.columns.Goals as goal
use Rattle.dm_stmt_read.proofs.columns.columns.Goals.{else-loop-test, then-loop-test+in_ok-column+in-None}

pub returns-in_err-column : goal.returns-in_err-column
returns-in_err-column c =
    exits (further next_column []) c.args.left.now _ c.from_residual.result c.in_err-column.field-0.0 c.from_residual.ensures.1
    (λ is. lost next_column c.len-end.result c.loop.counter c.loop.columns.items c.loop.left _ c.loop-test.true (c.in_err-column.ensures is) c.loop.invariant)

pub loop-preserved : goal.loop-preserved
loop-preserved c =
    one_more next_column c.len-end.result c.loop.counter c.loop.columns.items c.push.new.self.items c.in_ok-column.field-0 c.in-Some.column c.loop.left c.next_column.new.left _
    c.loop-test.true c.in_ok-column.ensures c.in-Some.is c.in_ok-push-in-Some.ensures.items c.loop.invariant

pub returns : goal.returns
returns c =
    elim c.loop-test.branch [
      | else-loop-test w ↦ all_turns next_column c.len-end.result c.loop.counter c.loop.columns.items c.new.result c.loop.left _ _ w.loop-test.false c.new.ensures w.left-is c.loop.invariant
      | then-loop-test+in_ok-column+in-None w ↦
          no_more next_column c.len-end.result c.loop.counter c.loop.columns.items c.new.result w.in_ok-column.field-0 c.loop.left w.next_column.new.left _ _ w.loop-test.true w.in_ok-column.ensures w.in-None.is c.new.ensures w.left-is c.loop.invariant
    ]
