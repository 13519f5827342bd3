use Rattle.std.proofs.Common.{arith, ap}
use Rattle.std.specs.Option.{option_map}
use Rattle.dm_walk.specs.Causes.{row_cause}
use Rattle.dm_walk.proofs.Images.{done_cause, known_end, known_first, known_next, known_stop, next_within}
use Rattle.dm_walk.proofs.rows.add_changes.Goals as goal

pub loop-at-init : goal.loop-at-init
loop-at-init c = (known_first c.args.place c.args.table.now.columns c.args.schema.now c.args.from c.args.bytes.now c.args.items.now.items, omega arith)

pub loop-at-preserved : goal.loop-at-preserved
loop-at-preserved c = (
  known_next c.args.place c.has_two-update.result c.args.table.now.columns c.args.schema.now c.args.from c.loop-at.at c.in-Ok.size c.step_over.result c.args.bytes.now c.loop-at.items.items c.push.new.self.items c.args.items.now.items _ c.loop-at-test.true c.has_two-update.ensures c.in-Ok.ensures.value c.in-Ok.ensures.within c.step_over.ensures c.in_ok-push-in-Ok.ensures.items c.loop-at.invariant.0,
  next_within c.loop-at.at c.in-Ok.size c.step_over.result c.args.bytes.now c.loop-at-test.true c.in-Ok.ensures.within c.step_over.ensures,
)

pub returns-in-Err-clause-items : goal.returns-in-Err-clause-items
returns-in-Err-clause-items c =
    (known_stop c.args.place c.has_two-update.result c.args.table.now.columns c.args.schema.now c.args.from c.loop-at.at c.args.bytes.now c.loop-at.items.items c.args.items.now.items _ c.in-Err.fault c.loop-at-test.true c.has_two-update.ensures c.in_ok-row_cause-in-Err.ensures.known c.in-Err.ensures.value c.loop-at.invariant.0).done_items

pub returns-in-Err-clause-cause : goal.returns-in-Err-clause-cause
returns-in-Err-clause-cause c =
    done_cause c.in_ok-row_cause-in-Err.field-0 c.in-Err.fault _ c.in_ok-row_cause-in-Err.ensures.cause (known_stop c.args.place c.has_two-update.result c.args.table.now.columns c.args.schema.now c.args.from c.loop-at.at c.args.bytes.now c.loop-at.items.items c.args.items.now.items _ c.in-Err.fault c.loop-at-test.true c.has_two-update.ensures c.in_ok-row_cause-in-Err.ensures.known c.in-Err.ensures.value c.loop-at.invariant.0).done_fault

pub returns-clause-items : goal.returns-clause-items
returns-clause-items c = (known_end c.args.place c.args.table.now.columns c.args.schema.now c.args.from c.loop-at.at c.args.bytes.now c.loop-at.items.items c.args.items.now.items _ c.loop-at-test.false c.loop-at.invariant.0).done_items

pub returns-clause-cause : goal.returns-clause-cause
returns-clause-cause c =
    ap (option_map row_cause) (known_end c.args.place c.args.table.now.columns c.args.schema.now c.args.from c.loop-at.at c.args.bytes.now c.loop-at.items.items c.args.items.now.items _ c.loop-at-test.false c.loop-at.invariant.0).done_fault
