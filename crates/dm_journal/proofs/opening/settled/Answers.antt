use Rattle.dm_journal.proofs.Opened.{cut_left}
use Rattle.dm_journal.proofs.opening.settled.Goals as goal

pub returns-in-Err-clause-left : goal.returns-in-Err-clause-left
returns-in-Err-clause-left g c = cut_left (g.J.Journal.bytes c.args.journal) (g.J.Journal.bytes c.cut.new.self) c.args.content.target c.args.size c.args.content.whole c.requires.holds c.in-Err.ensures.whole
