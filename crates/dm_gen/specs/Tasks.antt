-- The task: four sources with one table each, all of which go to one table.
use Rattle.std.specs.Prelude.{ℕ, List, [], ◌∷◌, map, codes}
use Rattle.dm_route.specs.declared.rules.RouteRule.{RouteRule}
use Rattle.dm_route.specs.declared.rules.Rules.{Rules}
use Rattle.dm_route.specs.Patterns.{signs_of}
use Rattle.dm_task.specs.declared.task.Task.{Task}
use Rattle.dm_task.specs.declared.task.Source.{Source}
use Rattle.dm_task.specs.declared.task.SourceTable.{SourceTable}
use Rattle.dm_gen.specs.Naming.{binlog_name, create_name, database, rows_name, source_name, table_of, target_name}

abbrev pub all_sources : List ℕ
all_sources = 0 ∷ 1 ∷ 2 ∷ 3 ∷ []

-- a source's one table
abbrev pub source_table : ℕ → SourceTable
source_table source = record { db = database; table = table_of source; create = create_name source; rows = rows_name source ∷ [] }

abbrev pub source_of : ℕ → Source
source_of source = record { name = source_name source; binlogs = binlog_name source ∷ []; start = 4; tables = source_table source ∷ [] }

-- `g`.`t*` goes to `g`.`t`
abbrev pub route : RouteRule
route = record { pair = record { db = signs_of (codes "g"); table = signs_of (codes "t*") }; target = target_name }

-- there is no filter and no allow list
abbrev pub rules : Rules
rules = record { allow = []; routes = route ∷ []; filters = [] }

abbrev pub task : Task
task = record { name = codes "gen"; window = 1000; batch = 100; lanes = 4; workers = 4; sources = map source_of all_sources; rules = rules }
