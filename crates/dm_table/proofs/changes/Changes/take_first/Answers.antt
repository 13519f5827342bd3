use Rattle.std.proofs.lemmas.Option.{IfSome_then}
use Rattle.dm_table.proofs.Entries.{taken_first, none_taken}
use Rattle.dm_table.proofs.changes.Changes.take_first.Goals as goal

pub returns-clause-taken : goal.returns-clause-taken
returns-clause-taken c =
    IfSome_then c.pop_first.result c.pop_first.ensures.removal
    (λ e removal. taken_first c.self.inside.rows c.pop_first.new.self c.args.self.now e c.self.invariant c.pop_first.ensures.ordered c.self.view_is removal)

pub returns-clause-end : goal.returns-clause-end
returns-clause-end c = none_taken c.pop_first.result c.self.inside.rows c.args.self.now c.self.invariant c.self.view_is c.pop_first.ensures.variant
