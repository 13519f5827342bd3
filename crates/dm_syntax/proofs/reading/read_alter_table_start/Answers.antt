use Rattle.dm_syntax.proofs.Ready.{alter_table_start_ready}
use Rattle.dm_syntax.proofs.reading.read_alter_table_start.Goals as goal

pub read-requires-clause-ready : goal.read-requires-clause-ready
read-requires-clause-ready c = alter_table_start_ready
