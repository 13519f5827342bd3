use Rattle.std.proofs.Common.{ap, ◌∙◌}
use Rattle.std.specs.FinMap as fin
use Rattle.dm_table.specs.Contents.{RowMap}
use Rattle.dm_table.proofs.Entries.{not_new, inserted}
use Rattle.dm_table.proofs.keyed.KeyedRows.replace.Goals as goal

pub unreachable-requires : goal.unreachable-requires
unreachable-requires c = not_new c.self.inside.rows c.args.self.now c.args.key c.self.view_is c.requires c.in-Err.ensures.absent

pub returns : goal.returns
returns c = inserted c.self.inside.rows c.insert.new.self c.args.key c.args.row c.in-Ok.ensures.updates ∙ ap (λ (m : RowMap). fin.insert m c.args.key c.args.row) c.self.view_is
