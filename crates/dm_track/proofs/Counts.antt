-- A task has no more targets than files.
use Rattle.std.proofs.Common.{suc, ◌+◌, ◌≤◌, List, [], ◌∷◌, ◌++◌, map, fold, length, Option, Some, None, arith, length-append}
use Rattle.std.specs.List.{cons_option, filter_map, flat_map}
use Rattle.std.specs.Ordering.{match_ordering}
use Rattle.std.specs.declared.cmp.Ordering.{Ordering}
use Rattle.std.specs.declared.cmp.Ordering.TheVariants.{Less, Equal, Greater}
use Rattle.std.proofs.lemmas.List.{length-map}
use Rattle.dm_schema.specs.Names.{Text}
use Rattle.dm_schema.specs.declared.table_name.TableName.{TableName}
use Rattle.dm_route.specs.declared.rules.Rules.{Rules}
use Rattle.dm_task.specs.declared.task.Source.{Source}
use Rattle.dm_task.specs.declared.task.SourceTable.{SourceTable}
use Rattle.dm_task.specs.declared.task.Shard.{Shard}
use Rattle.dm_task.specs.declared.task.Task.{Task}
use Rattle.dm_task.specs.Shards.{shard_of, shards_of, source_shards, table_name_cmp, targets_of, with_name}
use Rattle.dm_files.specs.Files.{files_of, source_files, table_files}

one_more : (names : List TableName) (name : TableName) → length (with_name names name) ≤ length names + 1
one_more [] name = omega arith
one_more (other ∷ others) name = by (table_name_cmp name other) (one_more others name) where
  by : (o : Ordering) → length (with_name others name) ≤ length others + 1 → length (match_ordering o (name ∷ other ∷ others) (other ∷ others) (other ∷ with_name others name)) ≤ suc (length others) + 1
  by Less h = omega arith
  by Equal h = omega arith
  by Greater h = omega arith

all_names : (more names : List TableName) → length (fold with_name names more) ≤ length names + length more
all_names [] names = omega arith
all_names (x ∷ xs) names =
    let rest = all_names xs (with_name names x) in
    let one = one_more names x in omega (arith, rest, one)

source_few : (rules : Rules) (source : Text) (tables : List SourceTable) → length (filter_map (shard_of rules source) tables) ≤ length (flat_map table_files tables)
source_few rules source [] = omega arith
source_few rules source (t ∷ ts) = by (shard_of rules source t) (source_few rules source ts) where
  by : (o : Option Shard) → length (filter_map (shard_of rules source) ts) ≤ length (flat_map table_files ts)
      → length (cons_option o (filter_map (shard_of rules source) ts)) ≤ length (table_files t ++ flat_map table_files ts)
  by None h = omega (arith, length-append (table_files t) (flat_map table_files ts))
  by (Some s) h = omega (arith, length-append (table_files t) (flat_map table_files ts))

task_few : (rules : Rules) (sources : List Source) → length (flat_map (source_shards rules) sources) ≤ length (flat_map source_files sources)
task_few rules [] = omega arith
task_few rules (s ∷ ss) =
    let rest = task_few rules ss in
    let own = source_few rules s.name s.tables in
    omega (arith, rest, own, length-append (source_shards rules s) (flat_map (source_shards rules) ss), length-append (source_files s) (flat_map source_files ss), length-append s.binlogs (flat_map table_files s.tables))

pub targets_few : (task : Task) → length (targets_of task) ≤ length (files_of task)
targets_few task =
    omega (arith, all_names (map (λ shard. shard.target) (shards_of task)) [], length-map (shards_of task) (λ shard. shard.target), task_few task.rules task.sources)
