-- The beginning of one table more.
use Rattle.std.proofs.Common.{◌≡◌, ℕ, ◌+◌, List, [], ◌∷◌, ◌++◌, length, Option, Some, Result, Ok, Err, refl, ap, ◌∙◌, append_assoc}
use Rattle.dm_schema.specs.Names.{Text}
use Rattle.dm_route.specs.declared.rules.Rules.{Rules}
use Rattle.dm_task.specs.declared.task.SourceTable.{SourceTable}
use Rattle.dm_task.specs.declared.task.Shard.{Shard}
use Rattle.dm_task.specs.Shards.{shard_of}
use Rattle.dm_files.specs.declared.files.NamedFile.{NamedFile}
use Rattle.dm_files.specs.Files.{table_files}
use Rattle.dm_snapshot.specs.Snapshots.{DumpReadings, snapshot_of}
use Rattle.dm_track.specs.declared.beginning.Beginning.{Beginning}
use Rattle.dm_track.specs.declared.fault.BuildFault.{BuildFault}
use Rattle.dm_track.specs.Steps.{beginning_by, beginnings, with_beginning, with_front, with_table}

pub one_pushed : (r : DumpReadings) (files : List NamedFile) (rules : Rules) (source : Text) (number : ℕ) (table : SourceTable) (tables : List SourceTable) (made new : List Beginning) (shard : Shard) (b : Beginning)
    → Some shard ≡ shard_of rules source table → Ok b ≡ beginning_by shard (snapshot_of r files table number) → new ≡ made ++ b ∷ []
    → with_front new (beginnings r files rules source (number + length (table_files table)) tables) ≡ with_front made (beginnings r files rules source number (table ∷ tables))
one_pushed r files rules source number table tables made new shard b shard_is b_is new_is =
    let rest = beginnings r files rules source (number + length (table_files table)) tables in
    ap (λ (l : List Beginning). with_front l rest) new_is
    ∙ behind rest
    ∙ ap (λ (o : Result Beginning BuildFault). with_front made (with_beginning o rest)) b_is
    ∙ ap (λ (s : Option Shard). with_front made (with_table r files number table s rest)) shard_is where
      behind : (o : Result (List Beginning) BuildFault) → with_front (made ++ b ∷ []) o ≡ with_front made (with_beginning (Ok b) o)
      behind (Err f) = refl
      behind (Ok bs) = let done : List Beginning → Result (List Beginning) BuildFault = λ l. Ok l in ap done (append_assoc made (b ∷ []) bs)
