-- The files of a task, in its order.
use Rattle.std.specs.Prelude.{ℕ, ◌^◌, ◌-◌, Bool, nat_lt, min, List, [], map, length, slice_get}
use Rattle.std.specs.Option.{option_map_or}
use Rattle.std.specs.List.{list_all}
use Rattle.std.specs.Cmp.Lexicographic.{pointwise}
use Rattle.dm_schema.specs.Names.{same_name}
use Rattle.dm_task.specs.declared.task.Task.{Task}
use Rattle.dm_task.specs.declared.task.Source.{Source}
-- Of a table: the file of its CREATE TABLE, then those of its rows. Of a source: its binlogs, then the files of its tables.
-- A task's are its sources'; a file's number is its place here, and a name that stands twice has two numbers.
pub use Rattle.dm_task.specs.TaskFile.{table_files, source_files, files_of}
use Rattle.dm_files.specs.declared.files.NamedFile.{NamedFile}

-- they are the files of the task, in its order
abbrev pub are_files : Task → List NamedFile → Bool
are_files task files = pointwise same_name (map (λ f. f.name) files) (files_of task)

-- how many files a source has, as a number of 64 bits
abbrev pub count_of : Source → ℕ
count_of source = min (length (source_files source)) (2 ^ 64 - 1)

-- the bytes of the file of a number; none where there is no such file
abbrev pub bytes_of : List NamedFile → ℕ → List ℕ
bytes_of files number = option_map_or (λ f. f.bytes) (slice_get files number) []

-- places in files have 32 bits
abbrev pub are_short : List NamedFile → Bool
are_short files = list_all (λ f. nat_lt (length f.bytes) (2 ^ 32)) files
