use Rattle.dm_stmt_read.specs.Readers.{further}
use Rattle.dm_stmt_read.specs.Lines.{next_change}
use Rattle.dm_stmt_read.proofs.Loops.{one_more, no_more, lost, all_turns, exits}
use Rattle.dm_stmt_read.proofs.changes.further_changes.Goals as goal
use Rattle.dm_stmt_read.proofs.changes.further_changes.Goals.{else-loop-test, then-loop-test+in_ok-change+in-None}

pub returns-in_err-change : goal.returns-in_err-change
returns-in_err-change c =
    exits (further next_change c.args.changes.items) c.args.left.now _ c.from_residual.result c.in_err-change.field-0.0 c.from_residual.ensures.1
    (λ is. lost next_change c.len-end.result c.loop.counter c.loop.changes.items c.loop.left _ c.loop-test.true (c.in_err-change.ensures is) c.loop.invariant)

pub loop-preserved : goal.loop-preserved
loop-preserved c =
    one_more next_change c.len-end.result c.loop.counter c.loop.changes.items c.push.new.self.items c.in_ok-change.field-0 c.in-Some.change c.loop.left c.next_change.new.left _
    c.loop-test.true c.in_ok-change.ensures c.in-Some.is c.in_ok-push-in-Some.ensures.items c.loop.invariant

pub returns : goal.returns
returns c =
    elim c.loop-test.branch [
      | else-loop-test w ↦ all_turns next_change c.len-end.result c.loop.counter c.loop.changes.items c.new.result c.loop.left _ _ w.loop-test.false c.new.ensures w.left-is c.loop.invariant
      | then-loop-test+in_ok-change+in-None w ↦
          no_more next_change c.len-end.result c.loop.counter c.loop.changes.items c.new.result w.in_ok-change.field-0 c.loop.left w.next_change.new.left _ _ w.loop-test.true w.in_ok-change.ensures w.in-None.is c.new.ensures w.left-is c.loop.invariant
    ]
