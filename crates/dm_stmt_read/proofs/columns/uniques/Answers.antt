use Rattle.std.proofs.Common.{[]}
use Rattle.dm_stmt_read.specs.Readers.{further}
use Rattle.dm_stmt_read.specs.Columns.{next_unique}
use Rattle.dm_stmt_read.proofs.Loops.{one_more, no_more, lost, all_turns, exits}
use Rattle.dm_stmt_read.proofs.columns.uniques.Goals as goal
use Rattle.dm_stmt_read.proofs.columns.uniques.Goals.{else-loop-test, then-loop-test+in_ok-key+in-None}

pub returns-in_err-key : goal.returns-in_err-key
returns-in_err-key c =
    exits (further next_unique []) c.args.left.now _ c.from_residual.result c.in_err-key.field-0.0 c.from_residual.ensures.1
    (λ is. lost next_unique c.len-end.result c.loop.counter c.loop.uniques.items c.loop.left _ c.loop-test.true (c.in_err-key.ensures is) c.loop.invariant)

pub loop-preserved : goal.loop-preserved
loop-preserved c =
    one_more next_unique c.len-end.result c.loop.counter c.loop.uniques.items c.push.new.self.items c.in_ok-key.field-0 c.in-Some.key c.loop.left c.next_unique.new.left _
    c.loop-test.true c.in_ok-key.ensures c.in-Some.is c.in_ok-push-in-Some.ensures.items c.loop.invariant

pub returns : goal.returns
returns c =
    elim c.loop-test.branch [
      | else-loop-test w ↦ all_turns next_unique c.len-end.result c.loop.counter c.loop.uniques.items c.new.result c.loop.left _ _ w.loop-test.false c.new.ensures w.left-is c.loop.invariant
      | then-loop-test+in_ok-key+in-None w ↦
          no_more next_unique c.len-end.result c.loop.counter c.loop.uniques.items c.new.result w.in_ok-key.field-0 c.loop.left w.next_unique.new.left _ _ w.loop-test.true w.in_ok-key.ensures w.in-None.is c.new.ensures w.left-is c.loop.invariant
    ]
