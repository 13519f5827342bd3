-- Steps of a build.
use Rattle.std.specs.Prelude.{ℕ, ◌+◌, Bool, true, false, ◌&&◌, is_some, List, [], ◌∷◌, ◌++◌, length, map, take, slice_get, Option, Some, None, Result, Ok, Err}
use Rattle.std.specs.Option.{option_map, option_map_or}
use Rattle.std.specs.List.{flat_map, list_all}
use Rattle.dm_schema.specs.Layout.{Layout}
use Rattle.dm_schema.specs.Names.{Text}
use Rattle.dm_route.specs.declared.rules.Rules.{Rules}
use Rattle.dm_task.specs.declared.task.Source.{Source}
use Rattle.dm_task.specs.declared.task.SourceTable.{SourceTable}
use Rattle.dm_task.specs.declared.task.Task.{Task}
use Rattle.dm_task.specs.declared.task.Shard.{Shard}
use Rattle.dm_task.specs.Shards.{shard_of}
use Rattle.dm_files.specs.declared.files.NamedFile.{NamedFile}
use Rattle.dm_files.specs.Files.{source_files, table_files}
use Rattle.dm_snapshot.specs.declared.snapshot.Snapshot.{Snapshot}
use Rattle.dm_snapshot.specs.declared.snapshot.SnapshotFault.{SnapshotFault}
use Rattle.dm_snapshot.specs.Snapshots.{DumpReadings, snapshot_of}
use Rattle.dm_stream.specs.Logs.{Log}
use Rattle.dm_decode.specs.declared.fault.RowFault.{RowFault}
use Rattle.dm_walk.specs.declared.item.Item.{Item}
use Rattle.dm_walk.specs.declared.item.Item.TheVariants as item
use Rattle.dm_walk.specs.declared.track.Track.{Track}
use Rattle.dm_walk.specs.Walks.{Statements, begun, walked}
use Rattle.dm_track.specs.declared.beginning.Beginning.{Beginning}
use Rattle.dm_track.specs.declared.beginning.HistoryHead.{HistoryHead}
use Rattle.dm_track.specs.declared.fault.BuildFault.{BuildFault}
use Rattle.dm_track.specs.declared.history.FileOrders.{FileOrders}
use Rattle.dm_track.specs.Histories.{History}
use Rattle.dm_track.specs.Changes.{change_at}
use Rattle.dm_track.specs.Builds.{Readings, all_of, source_histories, bad_of, dump_fault, file_orders, shard_name}

-- The rows of dumps.

abbrev pub head_of : Shard → Snapshot → HistoryHead
head_of shard snapshot = record { name = shard_name shard; target = shard.target; orders = map file_orders snapshot.files }

-- the history of a shard with the rows of its dump alone
abbrev pub beginning_of : Shard → Snapshot → Beginning
beginning_of shard snapshot = record { head = head_of shard snapshot; track = begun shard.name snapshot }

abbrev pub beginning_by : Shard → Result Snapshot SnapshotFault → Result Beginning BuildFault
beginning_by shard (Err f) = Err (dump_fault f)
beginning_by shard (Ok snapshot) = Ok (beginning_of shard snapshot)

abbrev pub with_beginning : Result Beginning BuildFault → Result (List Beginning) BuildFault → Result (List Beginning) BuildFault
with_beginning (Err f) behind = Err f
with_beginning (Ok b) (Err f) = Err f
with_beginning (Ok b) (Ok bs) = Ok (b ∷ bs)

abbrev pub with_table : DumpReadings → List NamedFile → ℕ → SourceTable → Option Shard → Result (List Beginning) BuildFault → Result (List Beginning) BuildFault
with_table r files number table None behind = behind
with_table r files number table (Some shard) behind = with_beginning (beginning_by shard (snapshot_of r files table number)) behind

-- the beginnings of a source's tables; the first table's first file has this number
abbrev pub beginnings : DumpReadings → List NamedFile → Rules → Text → ℕ → List SourceTable → Result (List Beginning) BuildFault
beginnings r files rules source number [] = Ok []
beginnings r files rules source number (table ∷ tables) =
    with_table r files number table (shard_of rules source table) (beginnings r files rules source (number + length (table_files table)) tables)

-- beginnings before others, unless there is a fault among those
abbrev pub with_front : List Beginning → Result (List Beginning) BuildFault → Result (List Beginning) BuildFault
with_front made (Ok rest) = Ok (made ++ rest)
with_front made (Err f) = Err f

-- an item is a row that can be read by a schema
abbrev pub reads_by : List NamedFile → List FileOrders → Layout → Item → Bool
reads_by files orders layout (item.Row at) = is_some (change_at files orders at layout)
reads_by files orders layout (item.Ddl at) = false

abbrev pub are_none : List Layout → Bool
are_none [] = true
are_none (next ∷ later) = false

-- each row that a history begins with can be read, and no statement is among them
abbrev pub is_readable : List NamedFile → Beginning → Bool
is_readable files b = are_none b.track.later && list_all (reads_by files b.head.orders b.track.first) b.track.items

-- Walks.

-- the history that a walk came to
abbrev pub finished : List Text → HistoryHead → Track → History
finished names head t = record {
  name = head.name;
  target = head.target;
  first = t.first;
  later = t.later;
  items = t.items;
  orders = head.orders;
  bad = option_map (bad_of names) t.fault;
}

-- the history that a walk makes of a beginning
abbrev pub history_of : List Text → Statements → Rules → Log → Beginning → History
history_of names statements rules log b = finished names b.head (walked statements rules log b.track)

-- Sources.

-- histories of sources, one source after another
abbrev pub all_parts : List (Result (List History) BuildFault) → Result (List History) BuildFault
all_parts [] = Ok []
all_parts (part ∷ parts) = all_of part (all_parts parts)

-- histories before others, unless there is a fault among those
abbrev pub behind_all : List History → Result (List History) BuildFault → Result (List History) BuildFault
behind_all made (Ok rest) = Ok (made ++ rest)
behind_all made (Err f) = Err f

-- how many files the sources before one have
abbrev pub files_before : ℕ → List Source → ℕ
files_before index sources = length (flat_map source_files (take index sources))

-- the histories of the source of a number
abbrev pub histories_at : Readings → List NamedFile → Task → ℕ → Result (List History) BuildFault
histories_at r files task index =
    option_map_or (λ s. source_histories r files (map (λ f. f.name) files) task.rules (files_before index task.sources) s) (slice_get task.sources index) (Ok [])

-- Rows.

-- what is read, if it can be
abbrev pub read_of : {A : Type 0} → Result A RowFault → Option A
read_of (Ok read) = Some read
read_of (Err fault) = None
