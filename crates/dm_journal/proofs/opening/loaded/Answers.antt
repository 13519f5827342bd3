use Rattle.std.proofs.Common.{arith}
use Rattle.dm_journal.specs.Journaled.{most_bytes}
use Rattle.dm_journal.proofs.Opened.{front_is_all, front_is_long}
use Rattle.dm_journal.proofs.opening.loaded.Goals as goal

pub returns-then-len-gt-MOST_BYTES-clause-unopened : goal.returns-then-len-gt-MOST_BYTES-clause-unopened
returns-then-len-gt-MOST_BYTES-clause-unopened g c = front_is_long (g.J.Journal.bytes c.args.journal.now) most_bytes c.in-Ok.bytes.items c.in-Ok.ensures.front (omega arith)

pub returns-else-len-gt-MOST_BYTES-clause-all : goal.returns-else-len-gt-MOST_BYTES-clause-all
returns-else-len-gt-MOST_BYTES-clause-all g c = front_is_all (g.J.Journal.bytes c.args.journal.now) most_bytes c.in-Ok.bytes.items c.in-Ok.ensures.front (omega arith)
