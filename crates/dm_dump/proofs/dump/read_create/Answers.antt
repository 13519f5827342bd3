use Rattle.dm_dump.proofs.DumpLemmas.{create_said, create_lacks}
use Rattle.dm_dump.proofs.dump.read_create.Goals as goal

pub returns-clause-says : goal.returns-clause-says
returns-clause-says c = create_said c.args.text.now c.read_statement.result c.created_by.result c.read_statement.ensures.exact c.created_by.ensures

pub returns-clause-memory : goal.returns-clause-memory
returns-clause-memory c = create_lacks c.read_statement.result c.created_by.result c.created_by.ensures
