use Rattle.dm_syntax.proofs.Ready.{other_start_ready}
use Rattle.dm_syntax.proofs.reading.read_other_start.Goals as goal

pub read-requires-clause-ready : goal.read-requires-clause-ready
read-requires-clause-ready c = other_start_ready
