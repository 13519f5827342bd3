-- The histories of a source are its beginnings, each walked on.
use Rattle.std.proofs.Common.{◌≡◌, ℕ, ◌+◌, Bool, true, false, List, [], ◌∷◌, map, length, Option, Some, None, Result, Ok, Err, refl, sym, ap, ◌∙◌}
use Rattle.std.specs.Prelude.{⊤, MatchBool}
use Rattle.std.specs.List.{range_with_len, zip}
use Rattle.dm_list.specs.Answer.{Answers}
use Rattle.dm_schema.specs.Layout.{Layout}
use Rattle.dm_schema.specs.Names.{Text}
use Rattle.dm_route.specs.declared.rules.Rules.{Rules}
use Rattle.dm_task.specs.declared.task.Source.{Source}
use Rattle.dm_task.specs.declared.task.SourceTable.{SourceTable}
use Rattle.dm_task.specs.declared.task.Shard.{Shard}
use Rattle.dm_task.specs.Shards.{shard_of}
use Rattle.dm_files.specs.declared.files.NamedFile.{NamedFile}
use Rattle.dm_files.specs.Files.{table_files}
use Rattle.dm_snapshot.specs.declared.snapshot.Snapshot.{Snapshot}
use Rattle.dm_snapshot.specs.declared.snapshot.SnapshotFault.{SnapshotFault}
use Rattle.dm_snapshot.specs.Snapshots.{snapshot_of}
use Rattle.dm_stream.specs.Logs.{LogFile, Log, log_of}
use Rattle.dm_walk.specs.declared.track.Track.{Track}
use Rattle.dm_walk.specs.Walks.{Statements, begun, walked}
use Rattle.dm_track.specs.declared.beginning.Beginning.{Beginning}
use Rattle.dm_track.specs.declared.beginning.HistoryHead.{HistoryHead}
use Rattle.dm_track.specs.declared.fault.BuildFault.{BuildFault}
use Rattle.dm_track.specs.Histories.{History}
use Rattle.dm_track.specs.Builds.{Readings, history_by, history_with, is_memory, log_file, source_histories, source_log, table_histories, with_history, with_table}
use Rattle.dm_track.specs.Steps.{beginning_by, beginning_of, beginnings, finished, history_of, with_beginning, with_table as with_begun}
use Rattle.dm_track.proofs.Firsts.{walked_first}

abbrev finish : (Beginning → History) → Result (List Beginning) BuildFault → Result (List History) BuildFault
finish f (Err e) = Err e
finish f (Ok bs) = Ok (map f bs)

one_finished : (names : List Text) (statements : Statements) (rules : Rules) (log : Log) (shard : Shard) (snapshot : Snapshot)
    → history_with names shard snapshot (walked statements rules log (begun shard.name snapshot)) ≡ history_of names statements rules log (beginning_of shard snapshot)
one_finished names statements rules log shard snapshot =
    let t = walked statements rules log (begun shard.name snapshot) in
    let with_first : Layout → History = λ first. record (finished names (beginning_of shard snapshot).head t) { first = first } in
    ap with_first (sym (walked_first statements rules log (begun shard.name snapshot)))

tables_finished : (r : Readings) (files : List NamedFile) (names : List Text) (rules : Rules) (log : Log) (source : Text) (number : ℕ) (tables : List SourceTable)
    → table_histories r files names rules log source number tables ≡ finish (history_of names r.dumps.statement rules log) (beginnings r.dumps files rules source number tables)
tables_finished r files names rules log source number [] = refl
tables_finished r files names rules log source number (table ∷ tables) =
    by (shard_of rules source table) (beginnings r.dumps files rules source (number + length (table_files table)) tables) (table_histories r files names rules log source (number + length (table_files table)) tables)
    (tables_finished r files names rules log source (number + length (table_files table)) tables) where
      one : (shard : Shard) (s : Result Snapshot SnapshotFault) (bs : Result (List Beginning) BuildFault) (hs : Result (List History) BuildFault) → hs ≡ finish (history_of names r.dumps.statement rules log) bs
          → with_history (history_by r names rules log shard s) hs ≡ finish (history_of names r.dumps.statement rules log) (with_beginning (beginning_by shard s) bs)
      one shard (Err f) bs hs e = refl
      one shard (Ok snapshot) (Err f) hs e = rw e refl
      one shard (Ok snapshot) (Ok bs) hs e =
          let before : History → Result (List History) BuildFault = λ h. Ok (h ∷ map (history_of names r.dumps.statement rules log) bs) in
          rw e (ap before (one_finished names r.dumps.statement rules log shard snapshot))

      by : (o : Option Shard) (bs : Result (List Beginning) BuildFault) (hs : Result (List History) BuildFault) → hs ≡ finish (history_of names r.dumps.statement rules log) bs
          → with_table r files names rules log number table o hs ≡ finish (history_of names r.dumps.statement rules log) (with_begun r.dumps files number table o bs)
      by None bs hs e = e
      by (Some shard) bs hs e = one shard (snapshot_of r.dumps files table number) bs hs e

together : (names : List Text) (statements : Statements) (rules : Rules) (log : Log) (bs : List Beginning)
    → map (λ p. finished names p.0 p.1) (zip (map (λ b. b.head) bs) (map (walked statements rules log) (map (λ b. b.track) bs))) ≡ map (history_of names statements rules log) bs
together names statements rules log [] = refl
together names statements rules log (b ∷ bs) = ap (λ (hs : List History). history_of names statements rules log b ∷ hs) (together names statements rules log bs)

-- the histories that a walk over a source's binlogs makes of beginnings
pub all_walked : (r : Readings) (files : List NamedFile) (names : List Text) (rules : Rules) (number : ℕ) (source : Source) (bs : List Beginning) (heads : List HistoryHead) (tracks new : List Track) (logs : List LogFile) (hs : List History)
    → heads ≡ map (λ b. b.head) bs → tracks ≡ map (λ b. b.track) bs
    → logs ≡ map (log_file files) (range_with_len number (length source.binlogs)) → new ≡ map (walked r.dumps.statement rules (log_of r.heads source.start logs)) tracks
    → hs ≡ map (λ p. finished names p.0 p.1) (zip heads new) → hs ≡ map (history_of names r.dumps.statement rules (source_log r.heads files number source)) bs
all_walked r files names rules number source bs heads tracks new logs hs heads_are tracks_are logs_are new_are hs_are =
    let log = source_log r.heads files number source in
    let walked_are : new ≡ map (walked r.dumps.statement rules log) (map (λ b. b.track) bs) =
    new_are ∙ ap (λ (ls : List LogFile). map (walked r.dumps.statement rules (log_of r.heads source.start ls)) tracks) logs_are
    ∙ ap (map (walked r.dumps.statement rules log)) tracks_are in
    hs_are ∙ ap (λ (hs : List HistoryHead). map (λ p. finished names p.0 p.1) (zip hs new)) heads_are
    ∙ ap (λ (ts : List Track). map (λ p. finished names p.0 p.1) (zip (map (λ b. b.head) bs) ts)) walked_are
    ∙ together names r.dumps.statement rules log bs

-- the histories of a source, where its beginnings were read and walked on
pub source_finished : (r : Readings) (files : List NamedFile) (names : List Text) (rules : Rules) (number : ℕ) (source : Source) (bs : List Beginning) (hs : List History)
    → Ok bs ≡ beginnings r.dumps files rules source.name (number + length source.binlogs) source.tables → hs ≡ map (history_of names r.dumps.statement rules (source_log r.heads files number source)) bs
    → Ok hs ≡ source_histories r files names rules number source
source_finished r files names rules number source bs hs begun_is all_are =
    let done : List History → Result (List History) BuildFault = λ l. Ok l in
    ap done all_are
    ∙ ap (finish (history_of names r.dumps.statement rules (source_log r.heads files number source))) begun_is
    ∙ sym (tables_finished r files names rules (source_log r.heads files number source) source.name (number + length source.binlogs) source.tables)

-- a fault of its dumps is the source's
pub source_refused : (r : Readings) (files : List NamedFile) (names : List Text) (rules : Rules) (number : ℕ) (source : Source) (f : BuildFault)
    → Answers is_memory (Err f) (beginnings r.dumps files rules source.name (number + length source.binlogs) source.tables) → Answers is_memory (Err f) (source_histories r files names rules number source)
source_refused r files names rules number source f h = by (is_memory f) h where
  by : (b : Bool) → MatchBool b ⊤ (Err f ≡ beginnings r.dumps files rules source.name (number + length source.binlogs) source.tables) → MatchBool b ⊤ (Err f ≡ source_histories r files names rules number source)
  by true h = h
  by false h =
      ap (finish (history_of names r.dumps.statement rules (source_log r.heads files number source))) h
      ∙ sym (tables_finished r files names rules (source_log r.heads files number source) source.name (number + length source.binlogs) source.tables)
