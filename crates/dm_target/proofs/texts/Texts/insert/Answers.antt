use Rattle.std.proofs.Common.{ap, ◌∙◌}
use Rattle.std.specs.FinMap as fin
use Rattle.dm_target.specs.Maps.{TextMap}
use Rattle.dm_target.proofs.Entries.{inserted}
use Rattle.dm_target.proofs.Orders.{name_total, name_exact}
use Rattle.dm_target.proofs.texts.Texts.insert.Goals as goal

pub returns : goal.returns
returns c =
    inserted name_total name_exact c.self.inside.texts c.insert.new.self c.args.name c.args.text c.in_ok-insert.ensures.updates
    ∙ ap (λ (m : TextMap). fin.insert m c.args.name c.args.text) c.self.view_is
