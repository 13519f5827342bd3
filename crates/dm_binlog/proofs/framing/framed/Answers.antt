use Rattle.std.proofs.Common.{◌∙◌, ap, [], ◌∷◌, ◌++◌}
use Rattle.dm_binlog.proofs.Chain.{behind_whole, whole_within, stops_damaged, stops_tail, stops_none}
use Rattle.dm_binlog.proofs.Laws.{framing_is_in_order}
use Rattle.dm_binlog.proofs.framing.framed.Goals as goal

pub loop-at-preserved : goal.loop-at-preserved
loop-at-preserved c = record {
  value = behind_whole c.args.last c.args.file.now c.loop-at.at c.in-Whole.kind c.in-Whole.size c.loop-at.list.items c.push.new.self.items _ c.loop-at-test.true c.in-Whole.ensures (c.in_ok-push-in-Whole.ensures.items ∙ ap (λ e. c.loop-at.list.items ++ e ∷ []) c.event_at.ensures) c.loop-at.invariant.value;
  within = (whole_within c.args.last c.args.file.now c.loop-at.at c.in-Whole.kind c.in-Whole.size c.loop-at-test.true c.in-Whole.ensures).1;
}

pub returns-in-Tail-clause-value : goal.returns-in-Tail-clause-value
returns-in-Tail-clause-value c = c.events_up_to.ensures ∙ stops_tail c.args.last c.args.file.now c.loop-at.at c.loop-at.list.items _ c.loop-at-test.true c.in-Tail.ensures c.loop-at.invariant.value

pub returns-in-Tail-clause-in_order : goal.returns-in-Tail-clause-in_order
returns-in-Tail-clause-in_order c = framing_is_in_order c.args.last c.args.file.now c.events_up_to.result c.requires.begun (returns-in-Tail-clause-value c)

pub returns-in-Damage-clause-value : goal.returns-in-Damage-clause-value
returns-in-Damage-clause-value c = c.events_up_to-in-Damage.ensures ∙ stops_damaged c.args.last c.args.file.now c.loop-at.at c.loop-at.list.items _ c.loop-at-test.true c.in-Damage.ensures c.loop-at.invariant.value

pub returns-in-Damage-clause-in_order : goal.returns-in-Damage-clause-in_order
returns-in-Damage-clause-in_order c = framing_is_in_order c.args.last c.args.file.now c.events_up_to-in-Damage.result c.requires.begun (returns-in-Damage-clause-value c)

pub returns-clause-value : goal.returns-clause-value
returns-clause-value c = c.events_up_to-2.ensures ∙ stops_none c.args.last c.args.file.now c.loop-at.at c.loop-at.list.items _ c.loop-at-test.false c.loop-at.invariant.value

pub returns-clause-in_order : goal.returns-clause-in_order
returns-clause-in_order c = framing_is_in_order c.args.last c.args.file.now c.events_up_to-2.result c.requires.begun (returns-clause-value c)
