-- The histories of a task's shards, over its files.
use Rattle.std.specs.Prelude.{ℕ, ◌+◌, Bool, true, false, ◌&&◌, nat_lt, position, option_and_then, List, [], ◌∷◌, ◌++◌, length, slice_get, sum, map, Option, Some, None, Result, Ok, Err, if◌then◌else◌}
use Rattle.std.specs.Option.{option_map, option_map_or}
use Rattle.std.specs.List.{range_with_len}
use Rattle.dm_schema.specs.Names.{Text, same_name}
use Rattle.dm_schema.specs.declared.table_name.TableName.{TableName}
use Rattle.dm_route.specs.declared.rules.Rules.{Rules}
use Rattle.dm_task.specs.declared.task.Task.{Task}
use Rattle.dm_task.specs.declared.task.Source.{Source}
use Rattle.dm_task.specs.declared.task.SourceTable.{SourceTable}
use Rattle.dm_task.specs.declared.task.Shard.{Shard}
use Rattle.dm_task.specs.Shards.{shard_of, targets_of}
use Rattle.dm_files.specs.declared.files.NamedFile.{NamedFile}
use Rattle.dm_files.specs.Files.{table_files, source_files, files_of, bytes_of}
use Rattle.dm_snapshot.specs.declared.snapshot.RowsFile.{RowsFile}
use Rattle.dm_snapshot.specs.declared.snapshot.Snapshot.{Snapshot}
use Rattle.dm_snapshot.specs.declared.snapshot.SnapshotFault.{SnapshotFault}
use Rattle.dm_snapshot.specs.declared.snapshot.SnapshotFault.TheVariants as snapshot_fault
use Rattle.dm_snapshot.specs.Snapshots.{DumpReadings, AreDumpReadings, snapshot_of}
use Rattle.dm_stream.specs.declared.event.LogFault.{LogFault}
use Rattle.dm_stream.specs.Sayings.{Heads}
use Rattle.dm_stream.specs.Logs.{LogFile, Log, AreHeads, log_of}
use Rattle.dm_text.specs.Names.{table_name_text}
use Rattle.dm_track.specs.declared.history.Bad.{Bad}
use Rattle.dm_track.specs.declared.history.FileOrders.{FileOrders}
use Rattle.dm_track.specs.declared.fault.BuildFault.{BuildFault}
use Rattle.dm_track.specs.declared.fault.BuildFault.TheVariants as fault
use Rattle.dm_track.specs.Histories.{History, values_of}
use Rattle.dm_walk.specs.declared.track.Track.{Track}
use Rattle.dm_walk.specs.Walks.{begun, walked}

-- what heads, statements and dumps say, by their grammars
pub record Readings : Type 0 where
  pub heads : Heads
  pub dumps : DumpReadings

abbrev pub AreReadings : Readings → Type 0
AreReadings r = AreHeads r.heads × AreDumpReadings r.dumps

-- a shard's name: its source's, a blank, and its table's
abbrev pub shard_name : Shard → Text
shard_name shard = shard.source ++ 32 ∷ table_name_text shard.name

abbrev pub bad_of : List Text → LogFault → Bad
bad_of names f = record { cause = f.cause; file = option_map_or (λ name. name) (slice_get names f.file) []; at = f.at }

abbrev pub file_orders : RowsFile → FileOrders
file_orders file = record { number = file.number; orders = file.inserts.orders }

-- the history of a shard that was dumped so, and whose walk gives this
abbrev pub history_with : List Text → Shard → Snapshot → Track → History
history_with names shard snapshot t = record {
  name = shard_name shard;
  target = shard.target;
  first = snapshot.schema;
  later = t.later;
  items = t.items;
  orders = map file_orders snapshot.files;
  bad = option_map (bad_of names) t.fault;
}

-- Of a source.

abbrev pub log_file : List NamedFile → ℕ → LogFile
log_file files number = record { number = number; bytes = bytes_of files number }

-- the log of a source whose first file has this number
abbrev pub source_log : Heads → List NamedFile → ℕ → Source → Log
source_log heads files number source = log_of heads source.start (map (log_file files) (range_with_len number (length source.binlogs)))

abbrev pub dump_fault : SnapshotFault → BuildFault
dump_fault (snapshot_fault.Dump file at cause) = fault.Dump file at cause
dump_fault snapshot_fault.Memory = fault.Memory

abbrev pub is_memory : BuildFault → Bool
is_memory fault.Memory = true
is_memory fault.Items = false
is_memory fault.Values = false
is_memory (fault.Dump file at cause) = false

abbrev pub history_by : Readings → List Text → Rules → Log → Shard → Result Snapshot SnapshotFault → Result History BuildFault
history_by r names rules log shard (Err f) = Err (dump_fault f)
history_by r names rules log shard (Ok snapshot) = Ok (history_with names shard snapshot (walked r.dumps.statement rules log (begun shard.name snapshot)))

abbrev pub with_history : Result History BuildFault → Result (List History) BuildFault → Result (List History) BuildFault
with_history (Err f) behind = Err f
with_history (Ok h) (Err f) = Err f
with_history (Ok h) (Ok hs) = Ok (h ∷ hs)

-- the history of a table, if it is a shard, and those behind it; its first file has this number
abbrev pub with_table : Readings → List NamedFile → List Text → Rules → Log → ℕ → SourceTable → Option Shard → Result (List History) BuildFault → Result (List History) BuildFault
with_table r files names rules log number table None behind = behind
with_table r files names rules log number table (Some shard) behind =
    with_history (history_by r names rules log shard (snapshot_of r.dumps files table number)) behind

-- the histories of a source's tables; the first table's first file has this number
abbrev pub table_histories : Readings → List NamedFile → List Text → Rules → Log → Text → ℕ → List SourceTable → Result (List History) BuildFault
table_histories r files names rules log source number [] = Ok []
table_histories r files names rules log source number (table ∷ tables) =
    with_table r files names rules log number table (shard_of rules source table)
    (table_histories r files names rules log source (number + length (table_files table)) tables)

-- the histories of a source's shards
abbrev pub source_histories : Readings → List NamedFile → List Text → Rules → ℕ → Source → Result (List History) BuildFault
source_histories r files names rules number source =
    table_histories r files names rules (source_log r.heads files number source) source.name (number + length source.binlogs) source.tables

-- Of the task.

abbrev pub all_of : Result (List History) BuildFault → Result (List History) BuildFault → Result (List History) BuildFault
all_of (Err f) behind = Err f
all_of (Ok hs) (Err f) = Err f
all_of (Ok hs) (Ok others) = Ok (hs ++ others)

-- the histories of sources, of whose files the first has this number
abbrev pub histories_from : Readings → List NamedFile → List Text → Rules → ℕ → List Source → Result (List History) BuildFault
histories_from r files names rules number [] = Ok []
histories_from r files names rules number (source ∷ sources) =
    all_of (source_histories r files names rules number source)
    (histories_from r files names rules (number + length (source_files source)) sources)

-- the most items that all histories have together
abbrev pub most_items : ℕ
most_items = 4000000

-- the most values that the rows of all items have together
abbrev pub most_values : ℕ
most_values = 64000000

abbrev pub items_in : List History → ℕ
items_in histories = sum (map (λ h. length h.items) histories)

abbrev pub values_in : List History → ℕ
values_in histories = sum (map values_of histories)

abbrev pub within_limits : List History → Result (List History) BuildFault
within_limits histories =
    if nat_lt most_items (items_in histories) then Err fault.Items
    else if nat_lt most_values (values_in histories) then Err fault.Values
    else Ok histories

abbrev pub limited : Result (List History) BuildFault → Result (List History) BuildFault
limited (Err f) = Err f
limited (Ok histories) = within_limits histories

-- The histories of a task's shards, in number order: or the first fault of a dump, and then that they are too many items
-- or values.
abbrev pub histories_of : Readings → Task → List NamedFile → Result (List History) BuildFault
histories_of r task files = limited (histories_from r files (files_of task) task.rules 0 task.sources)

-- what a run is given
pub record Inputs : Type 0 where
  pub task : Task
  pub files : List NamedFile
  pub histories : List History
  pub tables : List TableName

abbrev pub is_table : TableName → TableName → Bool
is_table target table = same_name table.db target.db && same_name table.table target.table

-- the number of a shard's target among the tables
abbrev pub table_of : Inputs → ℕ → Option ℕ
table_of inputs shard = option_and_then (λ h. position (is_table h.target) inputs.tables) (slice_get inputs.histories shard)

abbrev pub inputs_with : Task → List NamedFile → Result (List History) BuildFault → Result Inputs BuildFault
inputs_with task files (Err f) = Err f
inputs_with task files (Ok histories) = Ok (record { task = task; files = files; histories = histories; tables = targets_of task })

-- the inputs of a task and its files, or the first refusal
abbrev pub inputs_of : Readings → Task → List NamedFile → Result Inputs BuildFault
inputs_of r task files = inputs_with task files (histories_of r task files)
