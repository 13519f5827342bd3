use Rattle.std.proofs.Common.{ap, ◌∙◌}
use Rattle.std.specs.FinMap as fin
use Rattle.dm_table.specs.Contents.{RowMap}
use Rattle.dm_table.proofs.Entries.{get_keyed}
use Rattle.dm_table.proofs.keyed.KeyedRows.get.Goals as goal

pub returns : goal.returns
returns c = c.get.ensures.value ∙ get_keyed c.self.inside.rows c.args.key.now ∙ ap (λ (m : RowMap). fin.get m c.args.key.now) c.self.view_is
