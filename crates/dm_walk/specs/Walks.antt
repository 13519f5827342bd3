-- A shard's history as a walk over its source's events.
use Rattle.std.specs.Prelude.{ℕ, zero, suc, ◌+◌, ◌-◌, Bool, true, false, not, ◌&&◌, ◌||◌, ◌==◌, List, [], ◌∷◌, ◌++◌, map, fold, drop, length, slice_range, Option, Some, None, is_some, unwrap_or, Result, Ok, Err, if◌then◌else◌}
use Rattle.std.specs.List.{list_any, flat_map}
use Rattle.dm_value.specs.declared.value.Value.{Value}
use Rattle.dm_schema.specs.Layout.{Layout}
use Rattle.dm_schema.specs.Names.{Text, same_name}
use Rattle.dm_schema.specs.Effect.{ddl_effect}
use Rattle.dm_schema.specs.declared.fault.EffectFault.{EffectFault}
use Rattle.dm_schema.specs.declared.table_name.TableName.{TableName}
use Rattle.dm_binlog.specs.declared.event.Event.{Event}
use Rattle.dm_binlog.specs.declared.bodies.TableMap.{TableMap}
use Rattle.dm_binlog.specs.declared.bodies.ColumnMap.{ColumnMap}
use Rattle.dm_binlog.specs.declared.bodies.RowsHead.{RowsHead}
use Rattle.dm_binlog.specs.declared.event.TheConstants.{WRITE_ROWS_V1, WRITE_ROWS}
use Rattle.dm_binlog.specs.Bodies.{is_update}
use Rattle.dm_decode.specs.declared.fault.RowFault.{RowFault}
use Rattle.dm_decode.specs.Rows.{row_of}
use Rattle.dm_syntax.specs.declared.fault.DdlFault.{DdlFault}
use Rattle.dm_ddl.specs.declared.names.Named.{Named}
use Rattle.dm_ddl.specs.declared.heads.Head.{Head}
use Rattle.dm_ddl.specs.declared.heads.Head.TheVariants as heads
use Rattle.dm_ddl.specs.declared.statements.Statement.{Statement}
use Rattle.dm_ddl.specs.declared.statements.Statement.TheVariants as statement
use Rattle.dm_ddl.specs.Defaults.{default_value_of}
use Rattle.dm_ddl.specs.Statements.{statement_unless}
use Rattle.dm_syntax.specs.declared.parsing.Extent.TheVariants as extent
use Rattle.dm_syntax.specs.Parsing.{Says}
use Rattle.dm_route.specs.declared.event_kind.EventKind.{EventKind}
use Rattle.dm_route.specs.declared.event_kind.EventKind.TheVariants as kind
use Rattle.dm_route.specs.declared.rules.Rules.{Rules}
use Rattle.dm_route.specs.Rules.{ignores}
use Rattle.dm_snapshot.specs.declared.snapshot.RowsFile.{RowsFile}
use Rattle.dm_snapshot.specs.declared.snapshot.Snapshot.{Snapshot}
use Rattle.dm_stream.specs.declared.cause.BadCause.{BadCause}
use Rattle.dm_stream.specs.declared.cause.BadCause.TheVariants as cause
use Rattle.dm_stream.specs.declared.event.LogFault.{LogFault}
use Rattle.dm_stream.specs.Causes.{ddl_cause}
use Rattle.dm_stream.specs.Sayings.{Said, Nothing, Ends, Rows, Statement as Stated}
use Rattle.dm_stream.specs.Logs.{Logged, Log}
use Rattle.dm_walk.specs.declared.item.PlaceKind.{PlaceKind}
use Rattle.dm_walk.specs.declared.item.PlaceKind.TheVariants as place
use Rattle.dm_walk.specs.declared.item.Item.{Item}
use Rattle.dm_walk.specs.declared.item.Item.TheVariants as item
use Rattle.dm_walk.specs.declared.track.Track.{Track}
use Rattle.dm_walk.specs.Causes.{row_cause, effect_cause}

-- what statements say, by their grammar
abbrev pub Statements : Type 0
Statements = List ℕ → Result Statement DdlFault

-- the schema behind the last statement
abbrev pub layout_of : Track → Layout
layout_of t = fold (λ before after. after) t.first t.later

abbrev pub with_items : List Item → Track → Track
with_items items t = record { own = t.own; first = t.first; later = t.later; items = t.items ++ items; fault = t.fault }

abbrev pub with_statement : Item → Layout → Track → Track
with_statement ddl after t = record { own = t.own; first = t.first; later = t.later ++ after ∷ []; items = t.items ++ ddl ∷ []; fault = t.fault }

abbrev pub with_fault : Option LogFault → Track → Track
with_fault fault t = record { own = t.own; first = t.first; later = t.later; items = t.items; fault = fault }

-- it ends at an event
abbrev pub ended : BadCause → Logged → Track → Track
ended cause e t = with_fault (Some (record { file = e.file.number; at = e.event.at; cause = cause })) t

-- Rows.

-- how many bytes the change of a row takes that bytes begin with: its image, and of an update a second one
abbrev pub change_size : Bool → List ColumnMap → Layout → List ℕ → Result ℕ RowFault
change_size update maps layout bytes = by (row_of maps layout bytes) where
  second : ℕ → Result (List Value × ℕ) RowFault → Result ℕ RowFault
  second size (Err f) = Err f
  second size (Ok read) = Ok (size + read.1)

  by : Result (List Value × ℕ) RowFault → Result ℕ RowFault
  by (Err f) = Err f
  by (Ok read) = if update then second read.1 (row_of maps layout (drop read.1 bytes)) else Ok read.1

-- where the changes of rows begin, up to the first that is none
pub record Images : Type 0 where
  pub places : List ℕ
  pub fault : Option RowFault

-- what a change at a place gives, where the rest gives what it does behind so many bytes
abbrev pub told : Result ℕ RowFault → ℕ → (ℕ → Images) → Images
told (Err f) at behind = record { places = []; fault = Some f }
told (Ok size) at behind = record { places = at ∷ (behind size).places; fault = (behind size).fault }

-- the changes from a place on, of whose front so many bytes belong to the change before
unfoldable pub images_from : Bool → List ColumnMap → Layout → ℕ → ℕ → List ℕ → Images
images_from update maps layout at inside [] = record { places = []; fault = None }
images_from update maps layout at (suc inside) (b ∷ bs) = images_from update maps layout (at + 1) inside bs
images_from update maps layout at zero (b ∷ bs) =
    told (change_size update maps layout (b ∷ bs)) at (λ size. images_from update maps layout (at + 1) (size - 1) bs)

-- the bytes of an event's rows
abbrev pub rows_bytes : List ℕ → Event → RowsHead → List ℕ
rows_bytes file e head = slice_range file (e.body + head.rows) e.end

-- what a rows event of a type does, as filters tell events apart
abbrev pub rows_kind : ℕ → EventKind
rows_kind code = if code == WRITE_ROWS_V1 || code == WRITE_ROWS then kind.Insert else if is_update code then kind.Update else kind.Delete

abbrev pub place_kind : ℕ → PlaceKind
place_kind code = if code == WRITE_ROWS_V1 || code == WRITE_ROWS then place.Write else if is_update code then place.Update else place.Delete

abbrev pub row_item : Logged → Event → ℕ → Item
row_item e map_event at = item.Row (record { file = e.file.number; at = at; event = e.event.at; map = map_event.at; kind = place_kind e.event.kind })

-- its rows before the first that is none; at that the history ends
abbrev pub with_images : Logged → Event → Images → Track → Track
with_images e map_event images t = by images.fault where
  by : Option RowFault → Track
  by None = with_items (map (row_item e map_event) images.places) t
  by (Some f) = ended (row_cause f) e (with_items (map (row_item e map_event) images.places) t)

-- the rows of an event on the shard's table
abbrev pub with_rows : Logged → Event → TableMap → RowsHead → Track → Track
with_rows e map_event table head t =
    if not head.full then ended cause.Partial e t
    else if not (head.count == length table.columns) then ended cause.Count e t
    else with_images e map_event (images_from (is_update e.event.kind) table.columns (layout_of t) (e.event.body + head.rows) 0 (rows_bytes e.file.bytes e.event head)) t

-- Statements.

-- a table as a statement names it, in the database that it was written in
abbrev pub is_named : TableName → Text → Named → Bool
is_named own db named = same_name (unwrap_or named.db db) own.db && same_name named.table own.table

abbrev pub are_named : TableName → Text → List Named → Bool
are_named own db tables = list_any (is_named own db) tables

-- what a statement does, and whether it does it to the shard's table
abbrev pub statement_kind : TableName → Text → Head → Option EventKind
statement_kind own db head = by head where
  if_named : EventKind → Bool → Option EventKind
  if_named kind true = Some kind
  if_named kind false = None

  by : Head → Option EventKind
  by (heads.Create table only_new) = if_named kind.CreateTable (is_named own db table)
  by (heads.Alter table) = if_named kind.AlterTable (is_named own db table)
  by (heads.CreateIndex table) = if_named kind.CreateIndex (is_named own db table)
  by (heads.DropIndex table) = if_named kind.DropIndex (is_named own db table)
  by (heads.DropTable tables) = if_named kind.DropTable (are_named own db tables)
  by (heads.Truncate table) = if_named kind.Truncate (is_named own db table)
  by (heads.Rename tables) = if_named kind.Rename (are_named own db tables)
  by heads.RowStatement = None
  by heads.NotTable = None

abbrev pub statement_item : Logged → Item
statement_item e = item.Ddl (record { file = e.file.number; at = e.event.at; event = e.event.at; map = 0; kind = place.Statement })

abbrev pub with_effect : Logged → Result Layout EffectFault → Track → Track
with_effect e (Err f) t = ended (effect_cause f) e t
with_effect e (Ok after) t = with_statement (statement_item e) after t

-- a statement that alters the shard's table
abbrev pub altered : Logged → Result Statement DdlFault → Track → Track
altered e (Err f) t = ended (ddl_cause f) e t
altered e (Ok (statement.Alter table changes)) t = with_effect e (ddl_effect default_value_of (layout_of t) changes) t
altered e (Ok (statement.Create table schema only_new)) t = t
altered e (Ok statement.Other) t = t

-- A statement on the shard's table. One that creates it is nothing where the table need not be new; one that drops, empties
-- or renames it isn't supported.
abbrev pub with_ddl : Statements → Logged → Head → Text → Track → Track
with_ddl statements e head text t = by head where
  by : Head → Track
  by (heads.Create table only_new) = if only_new then t else ended cause.Unsupported e t
  by (heads.Alter table) = altered e (statements text) t
  by (heads.CreateIndex table) = altered e (statements text) t
  by (heads.DropIndex table) = altered e (statements text) t
  by (heads.DropTable tables) = ended cause.Unsupported e t
  by (heads.Truncate table) = ended cause.Unsupported e t
  by (heads.Rename tables) = ended cause.Unsupported e t
  by heads.RowStatement = t
  by heads.NotTable = t

-- The walk.

-- what an event does to the history of a shard's table, unless it is on another table or a filter ignores it
abbrev pub with_said : Statements → Rules → Logged → Said → Track → Track
with_said statements rules e Nothing t = t
with_said statements rules e (Ends cause) t = ended cause e t
with_said statements rules e (Rows map_event table head) t =
    if not (same_name table.db t.own.db && same_name table.table t.own.table) then t
    else if ignores rules t.own.db t.own.table (rows_kind e.event.kind) then t
    else with_rows e map_event table head t
with_said statements rules e (Stated head db text) t = by (statement_kind t.own db head) where
  by : Option EventKind → Track
  by None = t
  by (Some kind) = if ignores rules t.own.db t.own.table kind then t else with_ddl statements e head text t

-- one event more, unless the history has ended
abbrev pub with_event : Statements → Rules → Track → Logged → Track
with_event statements rules t e = if is_some t.fault then t else with_said statements rules e e.said t

-- behind all events it ends as its source does, unless it has ended
abbrev pub with_end : Option LogFault → Track → Track
with_end fault t = if is_some t.fault then t else with_fault fault t

-- a history behind all events of its source
abbrev pub walked : Statements → Rules → Log → Track → Track
walked statements rules log t = with_end log.fault (fold (with_event statements rules) t log.events)

-- The rows of its dump.

abbrev pub dumped_item : ℕ → ℕ → Item
dumped_item number at = item.Row (record { file = number; at = at; event = 0; map = 0; kind = place.Dumped })

abbrev pub dumped_items : RowsFile → List Item
dumped_items file = map (dumped_item file.number) file.inserts.places

-- the history of a table with the rows of its dump alone, file by file
abbrev pub begun : TableName → Snapshot → Track
begun own snapshot = record { own = own; first = snapshot.schema; later = []; items = flat_map dumped_items snapshot.files; fault = None }

-- What statements say, by their grammar.
abbrev pub AreStatements : Statements → Type 0
AreStatements statements = (text : List ℕ) → Says extent.Whole (statement_unless text) text (statements text)
