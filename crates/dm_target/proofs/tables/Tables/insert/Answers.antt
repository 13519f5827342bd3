use Rattle.std.proofs.Common.{ap, ◌∙◌}
use Rattle.std.specs.FinMap as fin
use Rattle.dm_target.specs.Maps.{TableMap}
use Rattle.dm_target.proofs.Entries.{inserted}
use Rattle.dm_target.proofs.Orders.{table_name_total, table_name_exact}
use Rattle.dm_target.proofs.tables.Tables.insert.Goals as goal

pub returns : goal.returns
returns c =
    inserted table_name_total table_name_exact c.self.inside.tables c.insert.new.self c.args.name c.args.table c.in_ok-insert.ensures.updates
    ∙ ap (λ (m : TableMap). fin.insert m c.args.name c.args.table) c.self.view_is
