use Rattle.std.proofs.Common.{ap, ◌∙◌}
use Rattle.std.specs.FinMap as fin
use Rattle.dm_table.specs.Contents.{RowMap}
use Rattle.dm_table.proofs.Entries.{inserted}
use Rattle.dm_table.proofs.keyed.KeyedRows.insert.Goals as goal

pub returns-clause-put : goal.returns-clause-put
returns-clause-put c = inserted c.self.inside.rows c.insert.new.self c.args.key c.args.row c.in_ok-insert.ensures.updates ∙ ap (λ (m : RowMap). fin.insert m c.args.key c.args.row) c.self.view_is
