use Rattle.dm_syntax.proofs.Ready.{alter_table_statement_ready}
use Rattle.dm_syntax.proofs.reading.alter_table_by.Goals as goal

pub read-requires-clause-ready : goal.read-requires-clause-ready
read-requires-clause-ready c = rw (c.requires.columns, c.requires.modify) alter_table_statement_ready

pub returns-clause-exact : goal.returns-clause-exact
returns-clause-exact c = rw (c.requires.columns, c.requires.modify) at c.read.ensures.exact

pub returns-clause-each_sentence : goal.returns-clause-each_sentence
returns-clause-each_sentence c = rw (c.requires.columns, c.requires.modify) at c.read.ensures.each_sentence
