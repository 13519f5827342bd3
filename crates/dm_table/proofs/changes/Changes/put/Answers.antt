use Rattle.std.proofs.Common.{ap, ◌∙◌}
use Rattle.std.specs.FinMap as fin
use Rattle.dm_table.specs.Staging.{ChangeMap}
use Rattle.dm_table.proofs.Entries.{inserted}
use Rattle.dm_table.proofs.changes.Changes.put.Goals as goal

pub returns : goal.returns
returns c = inserted c.self.inside.rows c.insert.new.self c.args.key c.args.change c.in_ok-insert.ensures.updates ∙ ap (λ (m : ChangeMap). fin.insert m c.args.key c.args.change) c.self.view_is
