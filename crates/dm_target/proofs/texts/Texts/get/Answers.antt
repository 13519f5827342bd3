use Rattle.std.proofs.Common.{ap, sym, ◌∙◌}
use Rattle.std.specs.FinMap.{find, get-entries}
use Rattle.dm_schema.specs.Names.{name_cmp}
use Rattle.dm_target.proofs.texts.Texts.get.Goals as goal

pub loop-other-init : goal.loop-other-init
loop-other-init c = ap (find name_cmp c.args.name.now) (c.into_iter-other-iterator.ensures.into_iter_gives.0 ∙ c.in_order-other-items.ensures) ∙ sym (get-entries c.args.self.now c.args.name.now)
