use Rattle.std.proofs.Common.{ap, ◌∙◌}
use Rattle.std.specs.FinMap as fin
use Rattle.dm_table.specs.Staging.{ChangeMap}
use Rattle.dm_table.proofs.Entries.{get_keyed}
use Rattle.dm_table.proofs.changes.Changes.get.Goals as goal

pub returns : goal.returns
returns c = c.get.ensures.value ∙ get_keyed c.self.inside.rows c.args.key.now ∙ ap (λ (m : ChangeMap). fin.get m c.args.key.now) c.self.view_is
