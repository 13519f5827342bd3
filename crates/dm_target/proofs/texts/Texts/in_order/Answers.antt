use Rattle.std.proofs.Common.{ap, sym, ◌∙◌}
use Rattle.std.specs.FinMap as fin
use Rattle.dm_target.proofs.Entries.{entries_kept}
use Rattle.dm_target.proofs.Orders.{name_total, name_exact}
use Rattle.dm_target.proofs.texts.Texts.in_order.Goals as goal

pub returns : goal.returns
returns c = sym (entries_kept name_total name_exact c.self.inside.texts c.self.invariant) ∙ ap fin.entries c.self.view_is
