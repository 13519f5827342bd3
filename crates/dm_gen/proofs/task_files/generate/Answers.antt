use Rattle.dm_gen.proofs.Laws.{made_named, made_short}
use Rattle.dm_gen.proofs.task_files.generate.Goals as goal

pub returns-clause-named : goal.returns-clause-named
returns-clause-named c = made_named c.args.number c.in_ok-task.field-0 c.in_ok-files.field-0 c.in_ok-task.ensures c.in_ok-files.ensures

pub returns-clause-short : goal.returns-clause-short
returns-clause-short c = made_short c.args.number c.in_ok-files.field-0 c.in_ok-files.ensures
