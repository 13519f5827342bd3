-- The tables that a task copies, and those that they go to.
use Rattle.std.specs.Prelude.{List, [], ◌∷◌, map, fold, Option, Some, None}
use Rattle.std.specs.List.{filter_map, flat_map}
use Rattle.std.specs.Ordering.{match_ordering}
use Rattle.std.specs.declared.cmp.Ordering.{Ordering}
use Rattle.dm_schema.specs.declared.table_name.TableName.{TableName}
use Rattle.dm_schema.specs.contracts.table_name.TableNameOrd.TheImpl as table_name_ord
use Rattle.dm_route.specs.declared.rules.Rules.{Rules}
use Rattle.dm_route.specs.Rules.{Destination, Skip, To, Same, route_of}
use Rattle.dm_task.specs.declared.task.Task.{Task}
use Rattle.dm_task.specs.declared.task.Source.{Source}
use Rattle.dm_task.specs.declared.task.SourceTable.{SourceTable}
use Rattle.dm_task.specs.declared.task.Shard.{Shard}
use Rattle.dm_task.specs.Paths.{Text}

abbrev pub table_name : SourceTable → TableName
table_name table = record { db = table.db; table = table.table }

-- the target of a table by its route; none where the table isn't admitted
abbrev pub target_by : Destination → TableName → Option TableName
target_by Skip own = None
target_by (To target) own = Some target
target_by Same own = Some own

abbrev pub shard_to : Text → TableName → Option TableName → Option Shard
shard_to source own None = None
shard_to source own (Some target) = Some (record { source = source; name = own; target = target })

-- the shard that a table of a source is, if it is admitted
abbrev pub shard_of : Rules → Text → SourceTable → Option Shard
shard_of rules source table = shard_to source (table_name table) (target_by (route_of rules table.db table.table) (table_name table))

abbrev pub source_shards : Rules → Source → List Shard
source_shards rules source = filter_map (shard_of rules source.name) source.tables

-- the shards of a task, source by source; each one's number is its place here
abbrev pub shards_of : Task → List Shard
shards_of task = flat_map (source_shards task.rules) task.sources

abbrev pub table_name_cmp : TableName → TableName → Ordering
table_name_cmp = (table_name_ord.ghosts).cmp

-- one more name among names in order, unless it is there
abbrev pub with_name : List TableName → TableName → List TableName
with_name [] name = name ∷ []
with_name (other ∷ others) name = match_ordering (table_name_cmp name other) (name ∷ other ∷ others) (other ∷ others) (other ∷ with_name others name)

abbrev pub names_in_order : List TableName → List TableName
names_in_order names = fold with_name [] names

-- the targets of the shards, in byte order, each once
abbrev pub targets_of : Task → List TableName
targets_of task = names_in_order (map (λ shard. shard.target) (shards_of task))
