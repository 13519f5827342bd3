use Rattle.std.proofs.Common.{length, ◌∙◌, sym, ap}
use Rattle.std.specs.Prelude.{IsUtf8}
use Rattle.dm_task.proofs.Arrays.{elements_step, read_behind}
use Rattle.dm_task.proofs.Files.{more_hold}
use Rattle.dm_task.proofs.array.elements.Goals as goal

pub loop-value-preserved : goal.loop-value-preserved
loop-value-preserved g c = record {
  so_far = elements_step g.T.Element.reads c.args.path.now c.loop-value.list.items c.push.new.self.items c.in_ok-element.element c.args.values.now c.loop-value.value-index c.value-item.result _ c.loop-value-test.true c.value-item.is (read_behind g.T.Element.reads c.args.path.now c.loop-value.list.items c.deref.result.now c.len.result c.in_ok-element.element _ c.deref.ensures.value (c.len.ensures ∙ sym c.deref.ensures.len ∙ ap length c.deref.ensures.value) c.in_ok-element.ensures.value) c.in_ok-push.ensures.items c.loop-value.invariant.so_far;
  texts = more_hold IsUtf8 g.T.Element.files c.loop-value.list.items c.push.new.self.items c.in_ok-element.element c.in_ok-push.ensures.items c.loop-value.invariant.texts c.in_ok-element.ensures.texts;
}
