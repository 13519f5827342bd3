use Rattle.dm_syntax.proofs.Ready.{create_table_start_ready}
use Rattle.dm_syntax.proofs.reading.read_create_table_start.Goals as goal

pub read-requires-clause-ready : goal.read-requires-clause-ready
read-requires-clause-ready c = create_table_start_ready
