use Rattle.std.proofs.Common.{ap, ◌∙◌}
use Rattle.std.specs.FinMap as fin
use Rattle.dm_target.specs.Maps.{TableMap}
use Rattle.dm_target.proofs.Entries.{get_kept}
use Rattle.dm_target.proofs.Orders.{table_name_total}
use Rattle.dm_target.proofs.tables.Tables.get.Goals as goal

pub returns : goal.returns
returns c = c.get.ensures.value ∙ get_kept table_name_total c.self.inside.tables c.args.name.now ∙ ap (λ (m : TableMap). fin.get m c.args.name.now) c.self.view_is
