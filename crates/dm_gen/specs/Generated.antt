-- The task and the files of a number.
use Rattle.std.specs.Prelude.{ℕ, List, [], ◌∷◌}
use Rattle.std.specs.List.{flat_map}
use Rattle.dm_files.specs.declared.files.NamedFile.{NamedFile}
use Rattle.dm_gen.specs.declared.task_files.Generated.{Generated}
use Rattle.dm_gen.specs.Naming.{binlog_name, create_name, rows_name}
use Rattle.dm_gen.specs.Tasks.{all_sources, task}
use Rattle.dm_gen.specs.Dumps.{create_file, rows_file}
use Rattle.dm_gen.specs.Logs.{binlog}

-- The files, in the task's order.

abbrev pub source_files : ℕ → ℕ → List NamedFile
source_files number source =
    record { name = binlog_name source; bytes = binlog number source }
    ∷ record { name = create_name source; bytes = create_file source }
    ∷ record { name = rows_name source; bytes = rows_file source }
    ∷ []

abbrev pub files : ℕ → List NamedFile
files number = flat_map (source_files number) all_sources

abbrev pub generated : ℕ → Generated
generated number = record { task = task; files = files number }
