-- Each shard of a task has one history, whose schemas follow from one another; and all have not too much together.
use Rattle.std.proofs.Common.{◌≡◌, ℕ, ◌+◌, ◌≤◌, Bool, true, false, cond, ltb, List, [], ◌∷◌, ◌++◌, length, Option, Some, None, Result, Ok, Err, refl, sym, subst, arith}
use Rattle.std.specs.List.{cons_option, filter_map, flat_map}
use Rattle.std.proofs.lemmas.Bool.Decides.{nat_tests}
use Rattle.dm_schema.specs.Layout.{Layout}
use Rattle.dm_schema.specs.Names.{Text}
use Rattle.dm_route.specs.declared.rules.Rules.{Rules}
use Rattle.dm_task.specs.declared.task.Source.{Source}
use Rattle.dm_task.specs.declared.task.SourceTable.{SourceTable}
use Rattle.dm_task.specs.declared.task.Shard.{Shard}
use Rattle.dm_task.specs.declared.task.Task.{Task}
use Rattle.dm_task.specs.Shards.{shard_of, shards_of, source_shards}
use Rattle.dm_files.specs.declared.files.NamedFile.{NamedFile}
use Rattle.dm_files.specs.Files.{files_of, source_files, table_files}
use Rattle.dm_snapshot.specs.declared.snapshot.Snapshot.{Snapshot}
use Rattle.dm_snapshot.specs.declared.snapshot.SnapshotFault.{SnapshotFault}
use Rattle.dm_snapshot.specs.Snapshots.{snapshot_of}
use Rattle.dm_stream.specs.Logs.{Log}
use Rattle.dm_walk.specs.Walks.{Statements, begun, walked}
use Rattle.dm_walk.proofs.Laws.{AreFollowing as FollowInWalk, schemas_follow}
use Rattle.dm_track.specs.declared.fault.BuildFault.{BuildFault}
use Rattle.dm_track.specs.declared.fault.BuildFault.TheVariants as fault
use Rattle.dm_track.specs.Histories.{History}
use Rattle.dm_track.specs.Builds.{Readings, all_of, histories_from, histories_of, history_by, history_with, items_in, limited, most_items, most_values, source_histories, source_log, table_histories, values_in, with_history, with_table}
use Rattle.dm_track.specs.Laws.{AreFew, AreFollowing, AreOf, IsOf}
use Rattle.dm_track.proofs.Firsts.{walked_first}

abbrev Histories : Type 0
Histories = Result (List History) BuildFault

same_following : (layout : Layout) (later : List Layout) → FollowInWalk layout later → AreFollowing layout later
same_following layout [] all = tt
same_following layout (next ∷ later) all = (all.0, same_following next later all.1)

is_of : (names : List Text) (statements : Statements) (rules : Rules) (log : Log) (shard : Shard) (snapshot : Snapshot)
    → IsOf shard (history_with names shard snapshot (walked statements rules log (begun shard.name snapshot)))
is_of names statements rules log shard snapshot =
    let t = walked statements rules log (begun shard.name snapshot) in
    let follow : FollowInWalk snapshot.schema t.later =
    subst (λ (layout : Layout). FollowInWalk layout t.later) (walked_first statements rules log (begun shard.name snapshot)) (schemas_follow statements rules log (begun shard.name snapshot) tt) in
    record { name = refl; target = refl; follows = same_following snapshot.schema t.later follow }

both_of : (xs ys : List Shard) (hs ks : List History) → AreOf xs hs → AreOf ys ks → AreOf (xs ++ ys) (hs ++ ks)
both_of [] ys [] ks first second = second
both_of [] ys (h ∷ hs) ks first second = absurd first
both_of (x ∷ xs) ys [] ks first second = absurd first
both_of (x ∷ xs) ys (h ∷ hs) ks first second = (first.0, both_of xs ys hs ks first.1 second)

tables_of : (r : Readings) (files : List NamedFile) (names : List Text) (rules : Rules) (log : Log) (source : Text) (number : ℕ) (tables : List SourceTable) (hs : List History)
    → table_histories r files names rules log source number tables ≡ Ok hs → AreOf (filter_map (shard_of rules source) tables) hs
tables_of r files names rules log source number [] hs is = let same : [] ≡ hs = cc in subst (AreOf []) same tt
tables_of r files names rules log source number (table ∷ tables) hs is =
    by (shard_of rules source table) (table_histories r files names rules log source (number + length (table_files table)) tables)
    (tables_of r files names rules log source (number + length (table_files table)) tables) is where
      one : (shard : Shard) (s : Result Snapshot SnapshotFault) (behind : Histories) → ((rest : List History) → behind ≡ Ok rest → AreOf (filter_map (shard_of rules source) tables) rest)
          → with_history (history_by r names rules log shard s) behind ≡ Ok hs → AreOf (shard ∷ filter_map (shard_of rules source) tables) hs
      one shard (Err f) behind next is = absurd cc
      one shard (Ok snapshot) (Err f) next is = absurd cc
      one shard (Ok snapshot) (Ok rest) next is =
          let same : history_with names shard snapshot (walked r.dumps.statement rules log (begun shard.name snapshot)) ∷ rest ≡ hs = cc in
          subst (AreOf (shard ∷ filter_map (shard_of rules source) tables)) same (is_of names r.dumps.statement rules log shard snapshot, next rest refl)

      by : (o : Option Shard) (behind : Histories) → ((rest : List History) → behind ≡ Ok rest → AreOf (filter_map (shard_of rules source) tables) rest)
          → with_table r files names rules log number table o behind ≡ Ok hs → AreOf (cons_option o (filter_map (shard_of rules source) tables)) hs
      by None behind next is = next hs is
      by (Some shard) behind next is = one shard (snapshot_of r.dumps files table number) behind next is

sources_of : (r : Readings) (files : List NamedFile) (names : List Text) (rules : Rules) (number : ℕ) (sources : List Source) (hs : List History) → histories_from r files names rules number sources ≡ Ok hs → AreOf (flat_map (source_shards rules) sources) hs
sources_of r files names rules number [] hs is = let same : [] ≡ hs = cc in subst (AreOf []) same tt
sources_of r files names rules number (s ∷ ss) hs is =
    by (source_histories r files names rules number s)
    (tables_of r files names rules (source_log r.heads files number s) s.name (number + length s.binlogs) s.tables)
    (histories_from r files names rules (number + length (source_files s)) ss) (sources_of r files names rules (number + length (source_files s)) ss) is where
      by : (p : Histories) → ((own : List History) → p ≡ Ok own → AreOf (source_shards rules s) own) → (q : Histories) → ((rest : List History) → q ≡ Ok rest → AreOf (flat_map (source_shards rules) ss) rest)
          → all_of p q ≡ Ok hs → AreOf (source_shards rules s ++ flat_map (source_shards rules) ss) hs
      by (Err f) here q next is = absurd cc
      by (Ok own) here (Err f) next is = absurd cc
      by (Ok own) here (Ok rest) next is =
          let same : own ++ rest ≡ hs = cc in
          subst (AreOf (source_shards rules s ++ flat_map (source_shards rules) ss)) same (both_of (source_shards rules s) (flat_map (source_shards rules) ss) own rest (here own refl) (next rest refl))

few : (n most : ℕ) → ltb most n ≡ false → n ≤ most
few n most h = grind (arith, nat_tests)

-- The law of a build.
pub histories_are : (r : Readings) (task : Task) (files : List NamedFile) (hs : List History) → Ok hs ≡ histories_of r task files → AreOf (shards_of task) hs × AreFew hs
histories_are r task files hs is =
    by (histories_from r files (files_of task) task.rules 0 task.sources) (sources_of r files (files_of task) task.rules 0 task.sources) (sym is) where
      within : (own : List History) → AreOf (shards_of task) own → (more larger : Bool) → ltb most_items (items_in own) ≡ more → ltb most_values (values_in own) ≡ larger
          → cond {A = Histories} more (Err fault.Items) (cond {A = Histories} larger (Err fault.Values) (Ok own)) ≡ Ok hs → AreOf (shards_of task) hs × AreFew hs
      within own are true larger items values is = absurd cc
      within own are false true items values is = absurd cc
      within own are false false items values is =
          let same : own ≡ hs = cc in
          subst (λ (l : List History). AreOf (shards_of task) l × AreFew l) same (are, (few (items_in own) most_items items, few (values_in own) most_values values))

      by : (p : Histories) → ((own : List History) → p ≡ Ok own → AreOf (shards_of task) own) → limited p ≡ Ok hs → AreOf (shards_of task) hs × AreFew hs
      by (Err f) all is = absurd cc
      by (Ok own) all is = within own (all own refl) (ltb most_items (items_in own)) (ltb most_values (values_in own)) refl refl is
