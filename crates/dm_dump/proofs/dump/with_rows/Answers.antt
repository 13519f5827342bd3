use Rattle.dm_dump.proofs.DumpLemmas.{table_read}
use Rattle.dm_dump.proofs.dump.with_rows.Goals as goal

pub returns : goal.returns
returns c = table_read c.args.text.now c.args.early c.args.created c.read_rows-rows.result c.dump_of.result c.read_rows-rows.ensures.says c.dump_of.ensures
