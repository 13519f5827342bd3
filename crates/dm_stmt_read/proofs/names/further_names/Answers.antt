use Rattle.dm_stmt_read.specs.Readers.{further, next_name}
use Rattle.dm_stmt_read.proofs.Loops.{one_more, no_more, lost, all_turns, exits}
use Rattle.dm_stmt_read.proofs.names.further_names.Goals as goal
use Rattle.dm_stmt_read.proofs.names.further_names.Goals.{else-loop-test, then-loop-test+in_ok-name+in-None}

pub returns-in_err-name : goal.returns-in_err-name
returns-in_err-name c =
    exits (further next_name c.args.names.items) c.args.left.now _ c.from_residual.result c.in_err-name.field-0.0 c.from_residual.ensures.1
    (λ is. lost next_name c.len-end.result c.loop.counter c.loop.names.items c.loop.left _ c.loop-test.true (c.in_err-name.ensures is) c.loop.invariant)

pub loop-preserved : goal.loop-preserved
loop-preserved c =
    one_more next_name c.len-end.result c.loop.counter c.loop.names.items c.push.new.self.items c.in_ok-name.field-0 c.in-Some.name c.loop.left c.next_name.new.left _
    c.loop-test.true c.in_ok-name.ensures c.in-Some.is c.in_ok-push-in-Some.ensures.items c.loop.invariant

pub returns : goal.returns
returns c =
    elim c.loop-test.branch [
      | else-loop-test w ↦ all_turns next_name c.len-end.result c.loop.counter c.loop.names.items c.new.result c.loop.left _ _ w.loop-test.false c.new.ensures w.left-is c.loop.invariant
      | then-loop-test+in_ok-name+in-None w ↦
          no_more next_name c.len-end.result c.loop.counter c.loop.names.items c.new.result w.in_ok-name.field-0 c.loop.left w.next_name.new.left _ _ w.loop-test.true w.in_ok-name.ensures w.in-None.is c.new.ensures w.left-is c.loop.invariant
    ]
