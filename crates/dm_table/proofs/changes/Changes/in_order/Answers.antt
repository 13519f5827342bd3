use Rattle.std.proofs.Common.{ap, sym, ◌∙◌}
use Rattle.std.specs.FinMap as fin
use Rattle.dm_table.proofs.Entries.{entries_keyed}
use Rattle.dm_table.proofs.changes.Changes.in_order.Goals as goal

pub returns : goal.returns
returns c = sym (entries_keyed c.self.inside.rows c.self.invariant) ∙ ap fin.entries c.self.view_is
