use Rattle.std.proofs.Common.{[]}
use Rattle.dm_stmt_read.specs.Readers.{further}
use Rattle.dm_stmt_read.specs.Lines.{next_meta}
use Rattle.dm_stmt_read.proofs.Loops.{one_more, no_more, lost, all_turns, exits}
use Rattle.dm_stmt_read.proofs.metas.metas.Goals as goal
use Rattle.dm_stmt_read.proofs.metas.metas.Goals.{else-loop-test, then-loop-test+in_ok-pair+in-None}

pub returns-in_err-pair : goal.returns-in_err-pair
returns-in_err-pair c =
    exits (further next_meta []) c.args.left.now _ c.from_residual.result c.in_err-pair.field-0.0 c.from_residual.ensures.1
    (λ is. lost next_meta c.len-end.result c.loop.counter c.loop.pairs.items c.loop.left _ c.loop-test.true (c.in_err-pair.ensures is) c.loop.invariant)

pub loop-preserved : goal.loop-preserved
loop-preserved c =
    one_more next_meta c.len-end.result c.loop.counter c.loop.pairs.items c.push.new.self.items c.in_ok-pair.field-0 c.in-Some.pair c.loop.left c.next_meta.new.left _
    c.loop-test.true c.in_ok-pair.ensures c.in-Some.is c.in_ok-push-in-Some.ensures.items c.loop.invariant

pub returns : goal.returns
returns c =
    elim c.loop-test.branch [
      | else-loop-test w ↦ all_turns next_meta c.len-end.result c.loop.counter c.loop.pairs.items c.new.result c.loop.left _ _ w.loop-test.false c.new.ensures w.left-is c.loop.invariant
      | then-loop-test+in_ok-pair+in-None w ↦
          no_more next_meta c.len-end.result c.loop.counter c.loop.pairs.items c.new.result w.in_ok-pair.field-0 c.loop.left w.next_meta.new.left _ _ w.loop-test.true w.in_ok-pair.ensures w.in-None.is c.new.ensures w.left-is c.loop.invariant
    ]
