use Rattle.dm_snapshot.proofs.FileLemmas.{schema_outlined}
use Rattle.dm_snapshot.proofs.create.read_schema.Goals as goal

pub returns : goal.returns
returns c = λ r are. schema_outlined r are c.args.text.now c.in_ok-outline.outline c.schema_with.result c.in_ok-outline.ensures (c.schema_with.ensures r are)
