-- What a task file says, or the first fault in it.
use Rattle.std.specs.Prelude.{Bool, false, not, ◌||◌, ◌&&◌, nat_lt, List, [], ◌∷◌, ◌++◌, length, codes, Option, Some, None, option_and_then, Ok, if◌then◌else◌}
use Rattle.std.specs.Str.{is_utf8}
use Rattle.std.specs.List.{list_any, flat_map}
use Rattle.toml.specs.Data.{Members, as_str, get_member}
use Rattle.toml.specs.Parse.{parse_document}
use Rattle.dm_schema.specs.Names.{same_name}
use Rattle.dm_route.specs.declared.rules.Pair.{Pair}
use Rattle.dm_route.specs.declared.rules.RouteRule.{RouteRule}
use Rattle.dm_route.specs.declared.rules.FilterRule.{FilterRule}
use Rattle.dm_route.specs.declared.rules.Rules.{Rules}
use Rattle.dm_task.specs.declared.fault.TaskCause.{TaskCause}
use Rattle.dm_task.specs.declared.fault.TaskCause.TheVariants as cause
use Rattle.dm_task.specs.declared.task.Task.{Task}
use Rattle.dm_task.specs.declared.task.Source.{Source}
use Rattle.dm_task.specs.declared.task.SourceTable.{SourceTable}
use Rattle.dm_task.specs.declared.reading.Sizes.{Sizes}
use Rattle.dm_task.specs.Paths.{Text, Path, below}
use Rattle.dm_task.specs.Reading.{Read, Reads, ReadsElement, refused, ◌>>=◌, needed, optional, listed, members_in, array, array_within, is_within}
use Rattle.dm_task.specs.Texts.{is_reserved, is_marked, set_of}
use Rattle.dm_task.specs.Fields.{whole, source_name, name, pattern, file_name, kind}
use Rattle.dm_task.specs.Shards.{shards_of, targets_of}

-- the value, unless the test holds
abbrev pub unless : {A : Type 0} → Bool → Path → TaskCause → A → Read A
unless test path cause x = if test then refused path cause else Ok x

-- the raw text that stands at a key, if one does
abbrev pub text_at : Text → Members → Option Text
text_at key members = option_and_then as_str (get_member key members)

abbrev pub is_reserved_at : Text → Option Text → Bool
is_reserved_at db None = false
is_reserved_at db (Some table) = is_reserved db table

-- the database of a table, whose own name stands at another key
abbrev pub database : Text → Text → Path → Members → Read Text
database key table_key path members =
    needed name key path members >>= λ db.
    unless (is_reserved_at db (text_at table_key members)) (below path key) cause.Range db

-- The tables of a source.

abbrev pub table_keys : List Text
table_keys = codes "db" ∷ codes "table" ∷ codes "create" ∷ codes "rows" ∷ []

-- one of these has the pair of names
abbrev pub has_table : List SourceTable → Text → Text → Bool
has_table tables db table = list_any (λ other. same_name other.db db && same_name other.table table) tables

abbrev pub files : Reads (List Text)
files = array_within 0 1000 file_name

abbrev pub source_table_in : List SourceTable → Path → Members → Read SourceTable
source_table_in earlier path members =
    database (codes "db") (codes "table") path members >>= λ db.
    needed name (codes "table") path members >>= λ table.
    unless (has_table earlier db table) (below path (codes "table")) cause.Repeated table >>= λ table.
    needed (file_name []) (codes "create") path members >>= λ create.
    optional [] files (codes "rows") path members >>= λ rows.
    Ok (record { db = db; table = table; create = create; rows = rows })

abbrev pub source_table : ReadsElement SourceTable
source_table earlier path value = members_in table_keys path value >>= λ members. source_table_in earlier path members

-- Sources.

abbrev pub source_keys : List Text
source_keys = codes "name" ∷ codes "binlogs" ∷ codes "start" ∷ codes "table" ∷ []

abbrev pub has_source : List Source → Text → Bool
has_source sources name = list_any (λ other. same_name other.name name) sources

abbrev pub source_in : List Source → Path → Members → Read Source
source_in earlier path members =
    needed source_name (codes "name") path members >>= λ name.
    unless (has_source earlier name) (below path (codes "name")) cause.Repeated name >>= λ name.
    optional [] files (codes "binlogs") path members >>= λ binlogs.
    optional 4 (whole 4 134217728) (codes "start") path members >>= λ start.
    needed (array_within 1 64 source_table) (codes "table") path members >>= λ tables.
    Ok (record { name = name; binlogs = binlogs; start = start; tables = tables })

abbrev pub source : ReadsElement Source
source earlier path value = members_in source_keys path value >>= λ members. source_in earlier path members

-- Routes, filters and the allow list.

abbrev pub pair_in : Path → Members → Read Pair
pair_in path members =
    needed pattern (codes "db") path members >>= λ db.
    needed pattern (codes "table") path members >>= λ table.
    Ok (record { db = db; table = table })

abbrev pub route_keys : List Text
route_keys = codes "db" ∷ codes "table" ∷ codes "to_db" ∷ codes "to_table" ∷ []

abbrev pub route_in : Path → Members → Read RouteRule
route_in path members =
    pair_in path members >>= λ pair.
    database (codes "to_db") (codes "to_table") path members >>= λ db.
    needed name (codes "to_table") path members >>= λ table.
    Ok (record { pair = pair; target = record { db = db; table = table } })

abbrev pub route : ReadsElement RouteRule
route earlier path value = members_in route_keys path value >>= λ members. route_in path members

abbrev pub filter_keys : List Text
filter_keys = codes "db" ∷ codes "table" ∷ codes "ignore" ∷ []

abbrev pub filter_in : Path → Members → Read FilterRule
filter_in path members =
    pair_in path members >>= λ pair.
    needed (array kind) (codes "ignore") path members >>= λ kinds.
    Ok (record { pair = pair; kinds = set_of kinds })

abbrev pub filter : ReadsElement FilterRule
filter earlier path value = members_in filter_keys path value >>= λ members. filter_in path members

abbrev pub allow_keys : List Text
allow_keys = codes "db" ∷ codes "table" ∷ []

abbrev pub allow : ReadsElement Pair
allow earlier path value = members_in allow_keys path value >>= λ members. pair_in path members

abbrev pub rules_in : Path → Members → Read Rules
rules_in path members =
    optional [] (array_within 0 64 route) (codes "route") path members >>= λ routes.
    optional [] (array_within 0 64 filter) (codes "filter") path members >>= λ filters.
    optional [] (array_within 0 64 allow) (codes "allow") path members >>= λ allow.
    Ok (record { allow = allow; routes = routes; filters = filters })

-- The task.

abbrev pub task_keys : List Text
task_keys = codes "name" ∷ codes "window" ∷ codes "batch" ∷ codes "lanes" ∷ codes "workers" ∷ codes "source" ∷ codes "route" ∷ codes "filter" ∷ codes "allow" ∷ []

abbrev pub sizes_in : Path → Members → Read Sizes
sizes_in path members =
    optional 1000 (whole 1 100000) (codes "window") path members >>= λ window.
    optional 100 (whole 1 1000) (codes "batch") path members >>= λ batch.
    optional 4 (whole 1 16) (codes "lanes") path members >>= λ lanes.
    optional 4 (whole 1 32) (codes "workers") path members >>= λ workers.
    Ok (record { window = window; batch = batch; lanes = lanes; workers = workers })

abbrev pub with_sizes : Text → Sizes → List Source → Rules → Task
with_sizes name sizes sources rules =
    record { name = name; window = sizes.window; batch = sizes.batch; lanes = sizes.lanes; workers = sizes.workers; sources = sources; rules = rules }

-- a task of 1 to 64 shards, which go to at most 16 tables
abbrev pub counted : Task → Read Task
counted task =
    unless (not (is_within 1 64 (length (shards_of task)))) (codes "source") cause.Shards task >>= λ task.
    unless (nat_lt 16 (length (targets_of task))) (codes "source") cause.Targets task

abbrev pub task_in : Path → Members → Read Task
task_in path members =
    needed source_name (codes "name") path members >>= λ name.
    sizes_in path members >>= λ sizes.
    needed (array_within 1 64 source) (codes "source") path members >>= λ sources.
    rules_in path members >>= λ rules.
    counted (with_sizes name sizes sources rules)

abbrev pub not_toml : Read Task
not_toml = refused (codes "-") cause.NotToml

abbrev pub listed_task : Members → Read Task
listed_task members = listed task_keys [] members >>= λ members. task_in [] members

abbrev pub document_task : Option Members → Read Task
document_task None = not_toml
document_task (Some members) = listed_task members

-- the task that a file's text says, or the first fault
abbrev pub task_of : Text → Read Task
task_of text = if is_marked text || not (is_utf8 text) then not_toml else document_task (parse_document text)

-- the names of the files that a task holds
abbrev pub table_files : SourceTable → List Text
table_files table = table.create ∷ table.rows

abbrev pub source_files : Source → List Text
source_files source = source.binlogs ++ flat_map table_files source.tables

abbrev pub files_of : Task → List Text
files_of task = flat_map source_files task.sources
