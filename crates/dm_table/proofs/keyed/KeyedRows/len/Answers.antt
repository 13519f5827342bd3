use Rattle.std.proofs.Common.{ap, sym, length, ◌∙◌}
use Rattle.std.specs.FinMap as fin
use Rattle.std.specs.FinMap.{len-entries}
use Rattle.dm_table.proofs.Entries.{entries_keyed}
use Rattle.dm_table.proofs.keyed.KeyedRows.len.Goals as goal

pub returns : goal.returns
returns c = c.len.ensures.len ∙ ap length (sym (entries_keyed c.self.inside.rows c.self.invariant) ∙ ap fin.entries c.self.view_is) ∙ sym (len-entries c.args.self.now)
