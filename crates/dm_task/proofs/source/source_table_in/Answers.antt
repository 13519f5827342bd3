use Rattle.std.specs.Prelude.{IsUtf8}
use Rattle.dm_task.proofs.Files.{names_hold}
use Rattle.dm_task.proofs.source.source_table_in.Goals as goal

pub returns-clause-texts : goal.returns-clause-texts
returns-clause-texts c = (c.in_ok-create.ensures.text, names_hold IsUtf8 c.in_ok-rows.rows c.in_ok-rows.ensures.texts)
