use Rattle.dm_syntax.proofs.Ready.{create_table_statement_ready}
use Rattle.dm_syntax.proofs.reading.create_table_of.Goals as goal

pub read-requires-clause-ready : goal.read-requires-clause-ready
read-requires-clause-ready c = rw c.requires.column create_table_statement_ready

pub returns-clause-exact : goal.returns-clause-exact
returns-clause-exact c = rw c.requires.column at c.read.ensures.exact

pub returns-clause-each_sentence : goal.returns-clause-each_sentence
returns-clause-each_sentence c = rw c.requires.column at c.read.ensures.each_sentence
