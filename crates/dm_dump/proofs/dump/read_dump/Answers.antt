use Rattle.dm_dump.proofs.DumpLemmas.{is_dump}
use Rattle.dm_dump.proofs.dump.read_dump.Goals as goal

pub returns : goal.returns
returns c = is_dump c.args.text.now c.in_ok-outline.outline c.dump_with.result c.in_ok-outline.ensures c.dump_with.ensures
