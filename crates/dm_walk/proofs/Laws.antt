-- What a walk adds to a history: rows that can be read again, and schemas that follow by changes.
use Rattle.std.proofs.Common.{◌≡◌, ℕ, ◌+◌, Bool, true, false, cond, not, ◌&&◌, ◌==◌, List, [], ◌∷◌, ◌++◌, map, fold, length, Option, Some, None, is_some, Result, Ok, Err, refl}
use Rattle.dm_schema.specs.Layout.{Layout}
use Rattle.dm_schema.specs.Effect.{ddl_effect}
use Rattle.dm_schema.specs.Names.{Text, same_name}
use Rattle.dm_schema.specs.declared.change.Change.{Change}
use Rattle.dm_schema.specs.declared.fault.EffectFault.{EffectFault}
use Rattle.dm_binlog.specs.declared.event.Event.{Event}
use Rattle.dm_binlog.specs.declared.event.Events.{Events}
use Rattle.dm_binlog.specs.declared.event.Fault.{Fault}
use Rattle.dm_binlog.specs.declared.event.TheConstants.{QUERY, TABLE_MAP}
use Rattle.dm_binlog.specs.declared.bodies.TableMap.{TableMap}
use Rattle.dm_binlog.specs.declared.bodies.RowsHead.{RowsHead}
use Rattle.dm_binlog.specs.Bodies.{QueryText, is_update, query_of, rows_head_of, table_map_of}
use Rattle.dm_binlog.specs.Framing.{events_of}
use Rattle.dm_decode.specs.declared.fault.RowFault.{RowFault}
use Rattle.dm_syntax.specs.declared.fault.DdlFault.{DdlFault}
use Rattle.dm_ddl.specs.Defaults.{default_value_of}
use Rattle.dm_ddl.specs.declared.heads.Head.{Head}
use Rattle.dm_ddl.specs.declared.heads.Head.TheVariants as heads
use Rattle.dm_ddl.specs.declared.statements.Statement.{Statement}
use Rattle.dm_ddl.specs.declared.statements.Statement.TheVariants as statement
use Rattle.dm_route.specs.declared.event_kind.EventKind.{EventKind}
use Rattle.dm_route.specs.declared.rules.Rules.{Rules}
use Rattle.dm_route.specs.Rules.{ignores}
use Rattle.dm_stream.specs.declared.cause.BadCause.TheVariants as cause
use Rattle.dm_stream.specs.declared.event.LogFault.{LogFault}
use Rattle.dm_stream.specs.Sayings.{Heads, Said, Nothing, Ends, Rows, Statement as Stated, body_of, head_said, is_rows, last_map, map_said, maps, partial_update_rows, query_said, rows_by, rows_said, said_of, transaction_payload}
use Rattle.dm_stream.specs.Logs.{LogFile, Logged, Log, is_last, log_of, logged, with_file}
use Rattle.dm_walk.specs.declared.item.Place.{Place}
use Rattle.dm_walk.specs.declared.item.Item.{Item}
use Rattle.dm_walk.specs.declared.item.Item.TheVariants as item
use Rattle.dm_walk.specs.declared.track.Track.{Track}
use Rattle.dm_walk.specs.Changes.{end_of, logged_change, map_at}
use Rattle.dm_walk.specs.Steps.{images_of}
use Rattle.dm_walk.specs.Walks.{Images, Statements, altered, ended, layout_of, row_item, rows_bytes, rows_kind, statement_kind, walked, with_ddl, with_effect, with_end, with_event, with_fault, with_images, with_rows, with_said}
use Rattle.dm_walk.proofs.Framed.{IsFramed, AreFramed, both_framed, events_framed, last_framed}
use Rattle.dm_walk.proofs.Reading.{AreThere, images_there, place_read}

-- Walks.

abbrev pub Every : (Logged → Type 0) → List Logged → Type 0
Every Sound [] = Unit {0}
Every Sound (e ∷ es) = Sound e × Every Sound es

-- what each event keeps and an end keeps, a walk keeps
record Keeps (Holds : Track → Type 0) (Sound : Logged → Type 0) (statements : Statements) (rules : Rules) : Type 0 where
  said : (e : Logged) (t : Track) → Sound e → Holds t → Holds (with_said statements rules e e.said t)
  fault : (o : Option LogFault) (t : Track) → Holds t → Holds (with_fault o t)

event_keeps : (Holds : Track → Type 0) (Sound : Logged → Type 0) (statements : Statements) (rules : Rules) → Keeps Holds Sound statements rules → (e : Logged) (t : Track) → Sound e → Holds t → Holds (with_event statements rules t e)
event_keeps Holds Sound statements rules keeps e t sound holds = by (is_some t.fault) where
  by : (b : Bool) → Holds (cond {A = Track} b t (with_said statements rules e e.said t))
  by true = holds
  by false = keeps.said e t sound holds

events_keep : (Holds : Track → Type 0) (Sound : Logged → Type 0) (statements : Statements) (rules : Rules) → Keeps Holds Sound statements rules → (events : List Logged) (t : Track) → Every Sound events → Holds t → Holds (fold (with_event statements rules) t events)
events_keep Holds Sound statements rules keeps [] t sound holds = holds
events_keep Holds Sound statements rules keeps (e ∷ es) t sound holds =
    events_keep Holds Sound statements rules keeps es (with_event statements rules t e) sound.1 (event_keeps Holds Sound statements rules keeps e t sound.0 holds)

end_keeps : (Holds : Track → Type 0) (Sound : Logged → Type 0) (statements : Statements) (rules : Rules) → Keeps Holds Sound statements rules → (o : Option LogFault) (t : Track) → Holds t → Holds (with_end o t)
end_keeps Holds Sound statements rules keeps o t holds = by (is_some t.fault) where
  by : (b : Bool) → Holds (cond {A = Track} b t (with_fault o t))
  by true = holds
  by false = keeps.fault o t holds

walk_keeps : (Holds : Track → Type 0) (Sound : Logged → Type 0) (statements : Statements) (rules : Rules) → Keeps Holds Sound statements rules → (log : Log) (t : Track) → Every Sound log.events → Holds t → Holds (walked statements rules log t)
walk_keeps Holds Sound statements rules keeps log t sound holds =
    end_keeps Holds Sound statements rules keeps log.fault (fold (with_event statements rules) t log.events) (events_keep Holds Sound statements rules keeps log.events t sound holds)

-- What a statement keeps, where it keeps what changes with an effect and an end keep.

record KeepsSteps (Holds : Track → Type 0) : Type 0 where
  fault : (o : Option LogFault) (t : Track) → Holds t → Holds (with_fault o t)
  effect : (e : Logged) (changes : List Change) (t : Track) → Holds t → Holds (with_effect e (ddl_effect default_value_of (layout_of t) changes) t)

altered_keeps : (Holds : Track → Type 0) → KeepsSteps Holds → (e : Logged) (answer : Result Statement DdlFault) (t : Track) → Holds t → Holds (altered e answer t)
altered_keeps Holds keeps e (Err f) t holds = keeps.fault _ t holds
altered_keeps Holds keeps e (Ok (statement.Alter table changes)) t holds = keeps.effect e changes t holds
altered_keeps Holds keeps e (Ok (statement.Create table schema only_new)) t holds = holds
altered_keeps Holds keeps e (Ok statement.Other) t holds = holds

ddl_keeps : (Holds : Track → Type 0) → KeepsSteps Holds → (statements : Statements) (e : Logged) (head : Head) (text : Text) (t : Track) → Holds t → Holds (with_ddl statements e head text t)
ddl_keeps Holds keeps statements e (heads.Create table true) text t holds = holds
ddl_keeps Holds keeps statements e (heads.Create table false) text t holds = keeps.fault _ t holds
ddl_keeps Holds keeps statements e (heads.Alter table) text t holds = altered_keeps Holds keeps e (statements text) t holds
ddl_keeps Holds keeps statements e (heads.CreateIndex table) text t holds = altered_keeps Holds keeps e (statements text) t holds
ddl_keeps Holds keeps statements e (heads.DropIndex table) text t holds = altered_keeps Holds keeps e (statements text) t holds
ddl_keeps Holds keeps statements e (heads.DropTable tables) text t holds = keeps.fault _ t holds
ddl_keeps Holds keeps statements e (heads.Truncate table) text t holds = keeps.fault _ t holds
ddl_keeps Holds keeps statements e (heads.Rename tables) text t holds = keeps.fault _ t holds
ddl_keeps Holds keeps statements e heads.RowStatement text t holds = holds
ddl_keeps Holds keeps statements e heads.NotTable text t holds = holds

-- what a rows event keeps
abbrev KeepsRows : (Track → Type 0) → Logged → Type 0
KeepsRows Holds e = (map_event : Event) (table : TableMap) (head : RowsHead) (t : Track) → e.said ≡ Rows map_event table head → Holds t → Holds (with_rows e map_event table head t)

said_keeps : (Holds : Track → Type 0) → KeepsSteps Holds → (statements : Statements) (rules : Rules) (e : Logged) → KeepsRows Holds e → (said : Said) (t : Track) → e.said ≡ said → Holds t → Holds (with_said statements rules e said t)
said_keeps Holds keeps statements rules e rows Nothing t is holds = holds
said_keeps Holds keeps statements rules e rows (Ends cause) t is holds = keeps.fault _ t holds
said_keeps Holds keeps statements rules e rows (Rows map_event table head) t is holds =
    by (not (same_name table.db t.own.db && same_name table.table t.own.table)) (ignores rules t.own.db t.own.table (rows_kind e.event.kind)) where
      by : (other ignored : Bool) → Holds (cond {A = Track} other t (cond {A = Track} ignored t (with_rows e map_event table head t)))
      by true ignored = holds
      by false true = holds
      by false false = rows map_event table head t is holds
said_keeps Holds keeps statements rules e rows (Stated head db text) t is holds = by (statement_kind t.own db head) refl where
  ignored : (kind : EventKind) (b : Bool) → Holds (cond {A = Track} b t (with_ddl statements e head text t))
  ignored kind true = holds
  ignored kind false = ddl_keeps Holds keeps statements e head text t holds

  by : (o : Option EventKind) → statement_kind t.own db head ≡ o → Holds (with_said statements rules e (Stated head db text) t)
  by None found = rw found holds
  by (Some kind) found = rw found (ignored kind (ignores rules t.own.db t.own.table kind))

-- Rows that can be read again.

abbrev pub OnNext : List Layout → (Layout → List Layout → Type 0) → Type 0
OnNext [] Holds = ⊥
OnNext (next ∷ later) Holds = Holds next later

abbrev pub IsLast : List Layout → Type 0
IsLast [] = Unit {0}
IsLast (next ∷ later) = ⊥

-- Each row passes a test with the schema at it: the first, or behind as many statements as come before it.
abbrev pub AreRead : (Place → Layout → Bool) → List Item → Layout → List Layout → Type 0
AreRead reads [] layout later = IsLast later
AreRead reads (item.Row p ∷ items) layout later = (reads p layout ≡ true) × AreRead reads items layout later
AreRead reads (item.Ddl p ∷ items) layout later = OnNext later (λ next rest. AreRead reads items next rest)

abbrev pub IsRead : (Place → Layout → Bool) → Track → Type 0
IsRead reads t = AreRead reads t.items t.first t.later

-- rows that pass it with one schema
abbrev pub AreRows : (Place → Layout → Bool) → Layout → List Item → Type 0
AreRows reads layout [] = Unit {0}
AreRows reads layout (item.Row p ∷ items) = (reads p layout ≡ true) × AreRows reads layout items
AreRows reads layout (item.Ddl p ∷ items) = ⊥

abbrev latest : Layout → List Layout → Layout
latest layout later = fold (λ before after. after) layout later

pub rows_are : (reads : Place → Layout → Bool) (layout : Layout) (rows : List Item) → AreRows reads layout rows → AreRead reads rows layout []
rows_are reads layout [] all = tt
rows_are reads layout (item.Row p ∷ rows) all = (all.0, rows_are reads layout rows all.1)
rows_are reads layout (item.Ddl p ∷ rows) all = absurd all

more_rows : (reads : Place → Layout → Bool) (items rows : List Item) (layout : Layout) (later : List Layout) → AreRead reads items layout later → AreRows reads (latest layout later) rows → AreRead reads (items ++ rows) layout later
more_rows reads [] rows layout [] read all = rows_are reads layout rows all
more_rows reads [] rows layout (next ∷ later) read all = absurd read
more_rows reads (item.Row p ∷ items) rows layout later read all = (read.0, more_rows reads items rows layout later read.1 all)
more_rows reads (item.Ddl p ∷ items) rows layout [] read all = absurd read
more_rows reads (item.Ddl p ∷ items) rows layout (next ∷ later) read all = more_rows reads items rows next later read all

one_ddl : (reads : Place → Layout → Bool) (items : List Item) (layout after : Layout) (later : List Layout) (p : Place) → AreRead reads items layout later → AreRead reads (items ++ item.Ddl p ∷ []) layout (later ++ after ∷ [])
one_ddl reads [] layout after [] p read = tt
one_ddl reads [] layout after (next ∷ later) p read = absurd read
one_ddl reads (item.Row q ∷ items) layout after later p read = (read.0, one_ddl reads items layout after later p read.1)
one_ddl reads (item.Ddl q ∷ items) layout after [] p read = absurd read
one_ddl reads (item.Ddl q ∷ items) layout after (next ∷ later) p read = one_ddl reads items next after later p read

read_steps : (reads : Place → Layout → Bool) → KeepsSteps (IsRead reads)
read_steps reads = record {
  fault = λ o t read. read;
  effect = λ e changes t read. by e t read (ddl_effect default_value_of (layout_of t) changes);
} where
  by : (e : Logged) (t : Track) → IsRead reads t → (o : Result Layout EffectFault) → IsRead reads (with_effect e o t)
  by e t read (Err f) = read
  by e t read (Ok after) = one_ddl reads t.items t.first after t.later _ read

-- the test passes where a change of an event can be read
abbrev pub Agrees : (Place → Layout → Bool) → (ℕ → List ℕ) → Type 0
Agrees reads files = (p : Place) (layout : Layout) → is_some (logged_change (files p.file) p layout) ≡ true → reads p layout ≡ true

-- An event of rows leads back to its end and to its table map.
abbrev pub IsSaid : List ℕ → Event → Said → Type 0
IsSaid file e Nothing = Unit {0}
IsSaid file e (Ends cause) = Unit {0}
IsSaid file e (Rows map_event table head) = (e.end ≡ end_of file e.at) × (map_at file map_event.at ≡ Some table)
IsSaid file e (Stated head db text) = Unit {0}

abbrev pub IsSound : (ℕ → List ℕ) → Logged → Type 0
IsSound files e = (files e.file.number ≡ e.file.bytes) × IsSaid e.file.bytes e.event e.said

places_read : (reads : Place → Layout → Bool) (files : ℕ → List ℕ) → Agrees reads files → (e : Logged) (map_event : Event) (table : TableMap) (head : RowsHead) (layout : Layout) → files e.file.number ≡ e.file.bytes → e.event.end ≡ end_of e.file.bytes e.event.at
    → map_at e.file.bytes map_event.at ≡ Some table → (places : List ℕ)
    → AreThere (is_update e.event.kind) table.columns layout (e.event.body + head.rows) (rows_bytes e.file.bytes e.event head) places → AreRows reads layout (map (row_item e map_event) places)
places_read reads files agrees e map_event table head layout here end map_is [] there = tt
places_read reads files agrees e map_event table head layout here end map_is (p ∷ ps) there =
    let read = place_read e.file.bytes e.file.number e.event map_event table head layout p end map_is there.0 in
    (agrees _ layout (rw here read), places_read reads files agrees e map_event table head layout here end map_is ps there.1)

images_read : (reads : Place → Layout → Bool) (e : Logged) (map_event : Event) (images : Images) (t : Track) → IsRead reads t → AreRows reads (layout_of t) (map (row_item e map_event) images.places) → IsRead reads (with_images e map_event images t)
images_read reads e map_event images t read rows = by images.fault where
  by : (fault : Option RowFault) → IsRead reads (with_images e map_event (record { places = images.places; fault = fault }) t)
  by None = more_rows reads t.items (map (row_item e map_event) images.places) t.first t.later read rows
  by (Some f) = more_rows reads t.items (map (row_item e map_event) images.places) t.first t.later read rows

read_rows : (reads : Place → Layout → Bool) (files : ℕ → List ℕ) → Agrees reads files → (e : Logged) → IsSound files e → KeepsRows (IsRead reads) e
read_rows reads files agrees e sound = λ map_event table head t is read.
    let said : IsSaid e.file.bytes e.event (Rows map_event table head) = rw is at sound.1 in
    by map_event table head t read said (not head.full) (not (head.count == length table.columns)) where
      by : (map_event : Event) (table : TableMap) (head : RowsHead) (t : Track) → IsRead reads t → IsSaid e.file.bytes e.event (Rows map_event table head) → (partial other : Bool)
          → IsRead reads (cond {A = Track} partial (ended cause.Partial e t) (cond {A = Track} other (ended cause.Count e t) (with_images e map_event (images_of e table head t) t)))
      by map_event table head t read said true other = read
      by map_event table head t read said false true = read
      by map_event table head t read said false false =
          images_read reads e map_event (images_of e table head t) t read
          (places_read reads files agrees e map_event table head (layout_of t) sound.0 said.0 said.1 (images_of e table head t).places
          (images_there (is_update e.event.kind) table.columns (layout_of t) (e.event.body + head.rows) 0 (rows_bytes e.file.bytes e.event head)))

-- The law: each row that a walk over a sound log adds can be read again, with the schema at it.
pub rows_read : (reads : Place → Layout → Bool) (files : ℕ → List ℕ) → Agrees reads files → (statements : Statements) (rules : Rules) (log : Log) (t : Track) → Every (IsSound files) log.events → IsRead reads t → IsRead reads (walked statements rules log t)
rows_read reads files agrees statements rules log t sound read =
    walk_keeps (IsRead reads) (IsSound files) statements rules
    (record {
      said = λ e t sound read. said_keeps (IsRead reads) (read_steps reads) statements rules e (read_rows reads files agrees e sound) e.said t refl read;
      fault = λ o t read. read;
    }) log t sound read

-- A source's log is sound.

said_rows : (file : List ℕ) (e : Event) (before : List Event) (head : RowsHead) (o : Option Event) → AreFramed file before → IsFramed file e → last_map file head.id before ≡ o → IsSaid file e (rows_by file head o)
said_rows file e before head None all here found = tt
said_rows file e before head (Some m) all here found = by (table_map_of (body_of file m)) refl where
  by : (o : Option TableMap) → table_map_of (body_of file m) ≡ o → IsSaid file e (rows_by file head (Some m))
  by None is = rw is tt
  by (Some table) is =
      let framed = last_framed (maps file head.id) file before m all found in
      rw is (here.1, rw (← framed.0, ← framed.1) is)

rows_sound : (file : List ℕ) (e : Event) (before : List Event) (o : Option RowsHead) → AreFramed file before → IsFramed file e → IsSaid file e (rows_said file before o)
rows_sound file e before None all here = tt
rows_sound file e before (Some head) all here = said_rows file e before head (last_map file head.id before) all here refl

map_sound : (file : List ℕ) (e : Event) (o : Option TableMap) → IsSaid file e (map_said o)
map_sound file e None = tt
map_sound file e (Some map) = tt

head_sound : (file : List ℕ) (e : Event) (q : QueryText) (answer : Result Head DdlFault) → IsSaid file e (head_said q answer)
head_sound file e q (Err fault) = tt
head_sound file e q (Ok heads.RowStatement) = tt
head_sound file e q (Ok heads.NotTable) = tt
head_sound file e q (Ok (heads.Create table only_new)) = tt
head_sound file e q (Ok (heads.Alter table)) = tt
head_sound file e q (Ok (heads.CreateIndex table)) = tt
head_sound file e q (Ok (heads.DropIndex table)) = tt
head_sound file e q (Ok (heads.DropTable tables)) = tt
head_sound file e q (Ok (heads.Truncate table)) = tt
head_sound file e q (Ok (heads.Rename tables)) = tt

query_sound : (read : Heads) (file : List ℕ) (e : Event) (o : Option QueryText) → IsSaid file e (query_said read o)
query_sound read file e None = tt
query_sound read file e (Some q) = head_sound file e q (read q.statement)

said_sound : (read : Heads) (file : List ℕ) (before : List Event) (e : Event) → AreFramed file before → IsFramed file e → IsSaid file e (said_of read file before e)
said_sound read file before e all here = by (e.kind == QUERY) (e.kind == TABLE_MAP) (is_rows e.kind) (e.kind == partial_update_rows) (e.kind == transaction_payload) where
  by : (query map_ rows partial payload : Bool)
      → IsSaid file e (cond {A = Said} query (query_said read (query_of (body_of file e))) (cond {A = Said} map_ (map_said (table_map_of (body_of file e)))
      (cond {A = Said} rows (rows_said file before (rows_head_of e.kind (body_of file e))) (cond {A = Said} partial (Ends cause.PartialUpdate) (cond {A = Said} payload (Ends cause.Payload) Nothing)))))
  by true map_ rows partial payload = query_sound read file e (query_of (body_of file e))
  by false true rows partial payload = map_sound file e (table_map_of (body_of file e))
  by false false true partial payload = rows_sound file e before (rows_head_of e.kind (body_of file e)) all here
  by false false false true payload = tt
  by false false false false true = tt
  by false false false false false = tt

logged_sound : (read : Heads) (files : ℕ → List ℕ) (file : LogFile) (before events : List Event) → files file.number ≡ file.bytes → AreFramed file.bytes before → AreFramed file.bytes events → Every (IsSound files) (logged read file before events)
logged_sound read files file before [] same all here = tt
logged_sound read files file before (e ∷ es) same all here =
    ((same, said_sound read file.bytes before e all here.0), logged_sound read files file (before ++ e ∷ []) es same (both_framed file.bytes before (e ∷ []) all (here.0, tt)) here.1)

both_sound : (files : ℕ → List ℕ) (events others : List Logged) → Every (IsSound files) events → Every (IsSound files) others → Every (IsSound files) (events ++ others)
both_sound files [] others first second = second
both_sound files (e ∷ es) others first second = (first.0, both_sound files es others first.1 second)

file_sound : (read : Heads) (files : ℕ → List ℕ) (file : LogFile) (events : Events) (behind : Log) → files file.number ≡ file.bytes → AreFramed file.bytes events.list → Every (IsSound files) behind.events
    → Every (IsSound files) (with_file read file events behind).events
file_sound read files file events behind same here rest = by events.fault where
  by : (fault : Option Fault) → Every (IsSound files) (with_file read file (record { list = events.list; fault = fault }) behind).events
  by None = both_sound files (logged read file [] events.list) behind.events (logged_sound read files file [] events.list same tt here) rest
  by (Some f) = logged_sound read files file [] events.list same tt here

-- the files of a source by their numbers
abbrev pub AreFiles : (ℕ → List ℕ) → List LogFile → Type 0
AreFiles files [] = Unit {0}
AreFiles files (f ∷ fs) = (files f.number ≡ f.bytes) × AreFiles files fs

-- The law: each rows event of a source's log leads back to its end and to its table map.
pub log_sound : (read : Heads) (files : ℕ → List ℕ) (start : ℕ) (source : List LogFile) → AreFiles files source → Every (IsSound files) (log_of read start source).events
log_sound read files start [] same = tt
log_sound read files start (f ∷ fs) same = file_sound read files f (events_of f.bytes start (is_last fs)) (log_of read 4 fs) same.0 (events_framed f.bytes start (is_last fs)) (log_sound read files 4 fs same.1)

-- Schemas that follow by changes.

abbrev pub Follows : Layout → Layout → Type 0
Follows before after = (changes : List Change) × (ddl_effect default_value_of before changes ≡ Ok after)

-- each schema follows from the one before
abbrev pub AreFollowing : Layout → List Layout → Type 0
AreFollowing layout [] = Unit {0}
AreFollowing layout (next ∷ later) = Follows layout next × AreFollowing next later

abbrev pub IsFollowing : Track → Type 0
IsFollowing t = AreFollowing t.first t.later

one_more : (layout after : Layout) (later : List Layout) → AreFollowing layout later → Follows (latest layout later) after → AreFollowing layout (later ++ after ∷ [])
one_more layout after [] all next = (next, tt)
one_more layout after (x ∷ xs) all next = (all.0, one_more x after xs all.1 next)

following_steps : KeepsSteps IsFollowing
following_steps = record {
  fault = λ o t all. all;
  effect = λ e changes t all. by e changes t all (ddl_effect default_value_of (layout_of t) changes) refl;
} where
  by : (e : Logged) (changes : List Change) (t : Track) → IsFollowing t → (o : Result Layout EffectFault) → ddl_effect default_value_of (layout_of t) changes ≡ o → IsFollowing (with_effect e o t)
  by e changes t all (Err f) is = all
  by e changes t all (Ok after) is = one_more t.first after t.later all (changes, is)

following_rows : (e : Logged) → KeepsRows IsFollowing e
following_rows e = λ map_event table head t is all. by map_event table head t all (not head.full) (not (head.count == length table.columns)) where
  added : (map_event : Event) (images : Images) (t : Track) → IsFollowing t → (fault : Option RowFault) → IsFollowing (with_images e map_event (record { places = images.places; fault = fault }) t)
  added map_event images t all None = all
  added map_event images t all (Some f) = all

  by : (map_event : Event) (table : TableMap) (head : RowsHead) (t : Track) → IsFollowing t → (partial other : Bool)
      → IsFollowing (cond {A = Track} partial (ended cause.Partial e t) (cond {A = Track} other (ended cause.Count e t) (with_images e map_event (images_of e table head t) t)))
  by map_event table head t all true other = all
  by map_event table head t all false true = all
  by map_event table head t all false false = added map_event (images_of e table head t) t all (images_of e table head t).fault

-- The law: each schema of a walk follows from the one before by the changes of a statement.
pub schemas_follow : (statements : Statements) (rules : Rules) (log : Log) (t : Track) → IsFollowing t → IsFollowing (walked statements rules log t)
schemas_follow statements rules log t all =
    walk_keeps IsFollowing (λ e. Unit {0}) statements rules
    (record {
      said = λ e t sound all. said_keeps IsFollowing following_steps statements rules e (following_rows e) e.said t refl all;
      fault = λ o t all. all;
    }) log t (trivially log.events) all where
      trivially : (events : List Logged) → Every (λ e. Unit {0}) events
      trivially [] = tt
      trivially (e ∷ es) = (tt, trivially es)
