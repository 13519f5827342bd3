use Rattle.dm_stmt_read.specs.Readers.{further_pairs}
use Rattle.dm_stmt_read.specs.Lines.{next_assignment}
use Rattle.dm_stmt_read.proofs.Loops.{pair_more, no_pair, pairs_lost, all_pairs, exits}
use Rattle.dm_stmt_read.proofs.ops.further_assignments.Goals as goal
use Rattle.dm_stmt_read.proofs.ops.further_assignments.Goals.{else-loop-test, then-loop-test+in_ok-name+in-None}

pub returns-in_err-name : goal.returns-in_err-name
returns-in_err-name c =
    exits (further_pairs (next_assignment c.args.schema.now.columns) c.args.names.items c.args.values.items) c.args.left.now _ c.from_residual.result c.in_err-name.field-0.0 c.from_residual.ensures.1
    (λ is. pairs_lost (next_assignment c.args.schema.now.columns) c.len-end.result c.loop.counter c.loop.names.items c.loop.values.items c.loop.left _ c.loop-test.true (c.in_err-name.ensures is) c.loop.invariant)

pub loop-preserved : goal.loop-preserved
loop-preserved c =
    pair_more (next_assignment c.args.schema.now.columns) c.len-end.result c.loop.counter c.loop.names.items c.push.new.self.items c.loop.values.items c.push-in-Some.new.self.items c.in_ok-name.field-0 c.in-Some.name c.in-Some.value
    c.loop.left c.next_assignment.new.left _ c.loop-test.true c.in_ok-name.ensures c.in-Some.is c.in_ok-push-in-Some.ensures.items c.in_ok-push-in-Some-2.ensures.items c.loop.invariant

pub returns : goal.returns
returns c =
    elim c.loop-test.branch [
      | else-loop-test w ↦
          all_pairs (next_assignment c.args.schema.now.columns) c.len-end.result c.loop.counter c.loop.names.items c.new.result c.loop.values.items c.new-2.result c.loop.left _ _ w.loop-test.false c.new.ensures c.new-2.ensures w.left-is c.loop.invariant
      | then-loop-test+in_ok-name+in-None w ↦
          no_pair (next_assignment c.args.schema.now.columns) c.len-end.result c.loop.counter c.loop.names.items c.new.result c.loop.values.items c.new-2.result w.in_ok-name.field-0 c.loop.left w.next_assignment.new.left _ _
          w.loop-test.true w.in_ok-name.ensures w.in-None.is c.new.ensures c.new-2.ensures w.left-is c.loop.invariant
    ]
