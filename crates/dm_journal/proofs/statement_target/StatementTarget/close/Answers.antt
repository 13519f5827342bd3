use Rattle.dm_journal.proofs.Appending.{journaled_holds}
use Rattle.dm_journal.proofs.statement_target.StatementTarget.close.Goals as goal

pub returns-clause-holds : goal.returns-clause-holds
returns-clause-holds g c = rw (← c.self.view_is) (journaled_holds (g.J.Journal.bytes c.self.inside.parts.journal) c.self.inside.parts.kept c.self.inside.parts.size c.self.inside.parts.doubt c.self.invariant)
