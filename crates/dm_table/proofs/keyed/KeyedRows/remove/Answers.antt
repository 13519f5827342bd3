use Rattle.std.proofs.Common.{ap, ◌∙◌}
use Rattle.std.specs.FinMap as fin
use Rattle.dm_table.specs.Contents.{RowMap}
use Rattle.dm_table.proofs.Entries.{removed}
use Rattle.dm_table.proofs.keyed.KeyedRows.remove.Goals as goal

pub returns : goal.returns
returns c = removed c.self.inside.rows c.remove.new.self c.args.key.now c.remove.ensures.updates ∙ ap (λ (m : RowMap). fin.remove m c.args.key.now) c.self.view_is
