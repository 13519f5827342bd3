-- The binlog of a source: the format event, and then each step's change, and the statements between them.
use Rattle.std.specs.Prelude.{ℕ, zero, suc, ◌+◌, ◌%◌, ◌==◌, nat_lt, Bool, ◌&&◌, List, [], ◌++◌, if◌then◌else◌}
use Rattle.dm_schema.specs.declared.row_change.RowChange.{RowChange}
use Rattle.dm_binlog.specs.Framing.{magic}
use Rattle.dm_encode.specs.Events.{format_event, map_event, query_event, rows_event}
use Rattle.dm_gen.specs.Naming.{database, table_of}
use Rattle.dm_gen.specs.Schemas.{schema_after, statement}
use Rattle.dm_gen.specs.Steps.{Walk, done_before, step, walk_at}

-- a change as a table map and a rows event; the table's id is one more than the source's number
abbrev pub change_events : ℕ → ℕ → RowChange → List ℕ
change_events source done change =
    map_event (source + 1) database (table_of source) (schema_after done) ++ rows_event (source + 1) (schema_after done) change

-- a statement as a QUERY event
abbrev pub statement_event : ℕ → ℕ → List ℕ
statement_event source done = query_event database (statement done (table_of source))

-- a statement comes behind the last of each thousand steps, but not at the end
abbrev pub is_last : ℕ → Bool
is_last j = j % 1000 == 999 && nat_lt j 3000

abbrev pub statement_behind : ℕ → ℕ → List ℕ
statement_behind source j = if is_last j then statement_event source (done_before j) else []

-- what a step writes
unfoldable pub logged : ℕ → ℕ → Walk → List ℕ
logged source j w = change_events source (done_before j) (step j w).change ++ statement_behind source j

-- what stands when so many steps are done
unfoldable pub log_at : ℕ → ℕ → ℕ → List ℕ
log_at number source zero = magic ++ format_event
log_at number source (suc j) = log_at number source j ++ logged source j (walk_at number source j)

-- all of the 4000 steps
abbrev pub binlog : ℕ → ℕ → List ℕ
binlog number source = log_at number source 4000
