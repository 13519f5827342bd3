use Rattle.std.proofs.Common.{ap, sym, ◌∙◌}
use Rattle.std.specs.FinMap as fin
use Rattle.dm_target.proofs.Entries.{entries_kept}
use Rattle.dm_target.proofs.Orders.{table_name_total, table_name_exact}
use Rattle.dm_target.proofs.tables.Tables.in_order.Goals as goal

pub returns : goal.returns
returns c = sym (entries_kept table_name_total table_name_exact c.self.inside.tables c.self.invariant) ∙ ap fin.entries c.self.view_is
