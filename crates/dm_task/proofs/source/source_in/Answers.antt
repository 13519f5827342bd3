use Rattle.std.specs.Prelude.{IsUtf8}
use Rattle.std.specs.List.{flat_map}
use Rattle.dm_task.specs.TaskFile.{table_files}
use Rattle.dm_task.proofs.Files.{both_hold, names_hold}
use Rattle.dm_task.proofs.source.source_in.Goals as goal

pub returns-clause-texts : goal.returns-clause-texts
returns-clause-texts c =
    both_hold IsUtf8 c.in_ok-binlogs.binlogs (flat_map table_files c.in_ok-tables.tables) (names_hold IsUtf8 c.in_ok-binlogs.binlogs c.in_ok-binlogs.ensures.texts) c.in_ok-tables.ensures.texts
