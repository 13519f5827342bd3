use Rattle.dm_ddl.proofs.Ranges.{kind_formed}
use Rattle.dm_ddl.proofs.types.kind_in.Goals as goal

pub returns-clause-kind : goal.returns-clause-kind
returns-clause-kind c = rw c.kind_of_word.ensures (kind_formed c.args.text.now c.args.item.now c.type_word.result c.requires)
