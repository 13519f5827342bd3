-- What an event says to the shards of its source, before any of their schemas is asked.
use Rattle.std.specs.Prelude.{ℕ, Bool, false, ◌&&◌, ◌||◌, ◌==◌, List, Option, Some, None, Result, Ok, Err, slice_range, reverse, if◌then◌else◌}
use Rattle.std.specs.Option.{option_map_or}
use Rattle.std.specs.List.{find}
use Rattle.dm_binlog.specs.declared.event.Event.{Event}
use Rattle.dm_binlog.specs.declared.event.TheConstants.{QUERY, TABLE_MAP}
use Rattle.dm_binlog.specs.declared.bodies.TableMap.{TableMap}
use Rattle.dm_binlog.specs.declared.bodies.RowsHead.{RowsHead}
use Rattle.dm_binlog.specs.Bodies.{QueryText, query_of, table_map_of, rows_head_of, is_rows_v1, is_rows_v2}
use Rattle.dm_syntax.specs.declared.fault.DdlFault.{DdlFault}
use Rattle.dm_ddl.specs.declared.heads.Head.{Head}
use Rattle.dm_ddl.specs.declared.heads.Head.TheVariants as head
use Rattle.dm_stream.specs.declared.cause.BadCause.{BadCause}
use Rattle.dm_stream.specs.declared.cause.BadCause.TheVariants as cause
use Rattle.dm_stream.specs.Causes.{ddl_cause}

-- what the heads of statements say by their grammar
abbrev pub Heads : Type 0
Heads = List ℕ → Result Head DdlFault

-- what an event says
pub data Said : Type 0 where
  Nothing : Said  -- nothing that a shard asks for
  Ends : BadCause → Said  -- each history of the source ends
  Rows : Event → TableMap → RowsHead → Said  -- rows of a table; first the event of its table map
  Statement : Head → List ℕ → List ℕ → Said  -- a statement on tables, the database that it was written in, its text

-- PARTIAL_UPDATE_ROWS_EVENT
abbrev pub partial_update_rows : ℕ
partial_update_rows = 39

-- TRANSACTION_PAYLOAD_EVENT
abbrev pub transaction_payload : ℕ
transaction_payload = 40

abbrev pub body_of : List ℕ → Event → List ℕ
body_of file e = slice_range file e.body e.end

abbrev pub is_rows : ℕ → Bool
is_rows kind = is_rows_v1 kind || is_rows_v2 kind

-- the event is a table map of this table id
abbrev pub maps : List ℕ → ℕ → Event → Bool
maps file id e = e.kind == TABLE_MAP && option_map_or (λ map. map.id == id) (table_map_of (body_of file e)) false

-- the last table map of a table id among the events before it in its file
abbrev pub last_map : List ℕ → ℕ → List Event → Option Event
last_map file id before = find (maps file id) (reverse before)

abbrev pub rows_by : List ℕ → RowsHead → Option Event → Said
rows_by file head None = Ends cause.NoMap
rows_by file head (Some e) = by (table_map_of (body_of file e)) where
  by : Option TableMap → Said
  by None = Ends cause.NoMap
  by (Some map) = Rows e map head

abbrev pub rows_said : List ℕ → List Event → Option RowsHead → Said
rows_said file before None = Ends cause.Body
rows_said file before (Some head) = rows_by file head (last_map file head.id before)

abbrev pub map_said : Option TableMap → Said
map_said None = Ends cause.Body
map_said (Some map) = Nothing

-- a statement by its head
abbrev pub head_said : QueryText → Result Head DdlFault → Said
head_said q (Err fault) = Ends (ddl_cause fault)
head_said q (Ok head.RowStatement) = Ends cause.RowStatement
head_said q (Ok head.NotTable) = Nothing
head_said q (Ok (head.Create table only_new)) = Statement (head.Create table only_new) q.db q.statement
head_said q (Ok (head.Alter table)) = Statement (head.Alter table) q.db q.statement
head_said q (Ok (head.CreateIndex table)) = Statement (head.CreateIndex table) q.db q.statement
head_said q (Ok (head.DropIndex table)) = Statement (head.DropIndex table) q.db q.statement
head_said q (Ok (head.DropTable tables)) = Statement (head.DropTable tables) q.db q.statement
head_said q (Ok (head.Truncate table)) = Statement (head.Truncate table) q.db q.statement
head_said q (Ok (head.Rename tables)) = Statement (head.Rename tables) q.db q.statement

abbrev pub query_said : Heads → Option QueryText → Said
query_said heads None = Ends cause.Body
query_said heads (Some q) = head_said q (heads q.statement)

-- what an event says, before which these events stand in its file
abbrev pub said_of : Heads → List ℕ → List Event → Event → Said
said_of heads file before e =
    if e.kind == QUERY then query_said heads (query_of (body_of file e))
    else if e.kind == TABLE_MAP then map_said (table_map_of (body_of file e))
    else if is_rows e.kind then rows_said file before (rows_head_of e.kind (body_of file e))
    else if e.kind == partial_update_rows then Ends cause.PartialUpdate
    else if e.kind == transaction_payload then Ends cause.Payload
    else Nothing
