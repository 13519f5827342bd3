-- What is printed of a task: its numbers, and where each of its shards goes.
use Rattle.std.specs.Prelude.{ℕ, List, ◌++◌, length, codes}
use Rattle.std.specs.List.{flat_map}
use Rattle.std.specs.Fmt.{decimal}
use Rattle.dm_task.specs.declared.task.Task.{Task}
use Rattle.dm_task.specs.declared.task.Shard.{Shard}
use Rattle.dm_task.specs.Shards.{shards_of, targets_of}
use Rattle.dm_text.specs.Names.{table_name_text}
use Rattle.dm_report.specs.Faults.{behind_blank}

-- shard source `db`.`table` to `db`.`table`
abbrev pub shard_line : Shard → List ℕ
shard_line s =
    codes "shard" ++ behind_blank s.source ++ behind_blank (table_name_text s.name) ++ codes " to" ++ behind_blank (table_name_text s.target) ++ codes "\n"

-- a number behind its word
abbrev pub numbered : List ℕ → ℕ → List ℕ
numbered word number = behind_blank word ++ behind_blank (decimal number)

-- task name sources 1 shards 2 tables 1
abbrev pub task_line : Task → List ℕ
task_line task =
    codes "task" ++ behind_blank task.name ++ numbered (codes "sources") (length task.sources) ++ numbered (codes "shards") (length (shards_of task))
    ++ numbered (codes "tables") (length (targets_of task)) ++ codes "\n"

abbrev pub task_text : Task → List ℕ
task_text task = task_line task ++ flat_map shard_line (shards_of task)
