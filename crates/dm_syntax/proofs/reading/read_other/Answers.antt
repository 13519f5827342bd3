use Rattle.dm_syntax.proofs.Ready.{other_statement_ready}
use Rattle.dm_syntax.proofs.reading.read_other.Goals as goal

pub read-requires-clause-ready : goal.read-requires-clause-ready
read-requires-clause-ready c = other_statement_ready
