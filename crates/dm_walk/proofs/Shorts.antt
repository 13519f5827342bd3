-- Places in the files of a log and in its statements have 32 bits.
use Rattle.std.proofs.Common.{◌≡◌, ℕ, suc, map, All, ◌<◌, ◌^◌, Bool, true, false, cond, ◌==◌, List, [], ◌∷◌, ◌++◌, length, Option, Some, None, Result, Ok, Err, refl, sym, arith, length-drop, length-take}
use Rattle.dm_binlog.specs.declared.event.Event.{Event}
use Rattle.dm_binlog.specs.declared.event.Events.{Events}
use Rattle.dm_binlog.specs.declared.event.Fault.{Fault}
use Rattle.dm_binlog.specs.declared.event.TheConstants.{QUERY, TABLE_MAP}
use Rattle.dm_binlog.specs.declared.bodies.TableMap.{TableMap}
use Rattle.dm_binlog.specs.declared.bodies.RowsHead.{RowsHead}
use Rattle.dm_binlog.specs.Bodies.{QueryText, query_of, rows_head_of, table_map_of}
use Rattle.dm_binlog.specs.Framing.{events_of}
use Rattle.dm_syntax.specs.declared.fault.DdlFault.{DdlFault}
use Rattle.dm_ddl.specs.declared.heads.Head.{Head}
use Rattle.dm_ddl.specs.declared.heads.Head.TheVariants as head
use Rattle.dm_stream.specs.declared.cause.BadCause.TheVariants as cause
use Rattle.dm_stream.specs.declared.event.LogFile as program_file
use Rattle.dm_stream.specs.declared.event.Logged as program_logged
use Rattle.dm_stream.specs.Rests.{IsNext}
use Rattle.dm_stream.specs.Views.{seen, seen_file, IsShort as IsShortFile}
use Rattle.std.specs.Option.{option_map}
use Rattle.dm_stream.specs.Sayings.{Heads, Said, Nothing, Ends, body_of, head_said, is_rows, last_map, map_said, partial_update_rows, query_said, rows_by, rows_said, said_of, transaction_payload}
use Rattle.dm_stream.specs.Logs.{LogFile, Logged, Log, is_last, log_of, logged, with_file}
use Rattle.dm_walk.proofs.QueryLemmas.{query_short}
use Rattle.dm_walk.specs.Steps.{AreShort, HasShortText, IsShort}

head_short : (q : QueryText) (answer : Result Head DdlFault) → length q.statement < 2 ^ 32 → HasShortText (head_said q answer)
head_short q (Err fault) short = tt
head_short q (Ok head.RowStatement) short = tt
head_short q (Ok head.NotTable) short = tt
head_short q (Ok (head.Create table only_new)) short = short
head_short q (Ok (head.Alter table)) short = short
head_short q (Ok (head.CreateIndex table)) short = short
head_short q (Ok (head.DropIndex table)) short = short
head_short q (Ok (head.DropTable tables)) short = short
head_short q (Ok (head.Truncate table)) short = short
head_short q (Ok (head.Rename tables)) short = short

said_query_short : (heads : Heads) (body : List ℕ) → length body < 2 ^ 32 → HasShortText (query_said heads (query_of body))
said_query_short heads body short = by (query_of body) refl where
  by : (o : Option QueryText) → query_of body ≡ o → HasShortText (query_said heads o)
  by None e = tt
  by (Some q) e = head_short q (heads q.statement) (let most = query_short body q (sym e) in omega arith)

map_short : (o : Option TableMap) → HasShortText (map_said o)
map_short None = tt
map_short (Some map) = tt

by_short : (file : List ℕ) (head : RowsHead) (o : Option Event) → HasShortText (rows_by file head o)
by_short file head None = tt
by_short file head (Some e) = by (table_map_of (body_of file e)) refl where
  by : (o : Option TableMap) → table_map_of (body_of file e) ≡ o → HasShortText (rows_by file head (Some e))
  by None is = rw is tt
  by (Some map) is = rw is tt

rows_short : (file : List ℕ) (before : List Event) (o : Option RowsHead) → HasShortText (rows_said file before o)
rows_short file before None = tt
rows_short file before (Some head) = by_short file head (last_map file head.id before)

body_short : (file : List ℕ) (e : Event) → length file < 2 ^ 32 → length (body_of file e) < 2 ^ 32
body_short file e short = simp (length-take, length-drop) (omega arith)

said_short : (heads : Heads) (file : List ℕ) (before : List Event) (e : Event) → length file < 2 ^ 32 → HasShortText (said_of heads file before e)
said_short heads file before e short = by (e.kind == QUERY) (e.kind == TABLE_MAP) (is_rows e.kind) (e.kind == partial_update_rows) (e.kind == transaction_payload) where
  by : (query maps rows partial payload : Bool)
      → HasShortText (cond {A = Said} query (query_said heads (query_of (body_of file e))) (cond {A = Said} maps (map_said (table_map_of (body_of file e)))
      (cond {A = Said} rows (rows_said file before (rows_head_of e.kind (body_of file e))) (cond {A = Said} partial (Ends cause.PartialUpdate) (cond {A = Said} payload (Ends cause.Payload) Nothing)))))
  by true maps rows partial payload = said_query_short heads (body_of file e) (body_short file e short)
  by false true rows partial payload = map_short (table_map_of (body_of file e))
  by false false true partial payload = rows_short file before (rows_head_of e.kind (body_of file e))
  by false false false true payload = tt
  by false false false false true = tt
  by false false false false false = tt

logged_short : (heads : Heads) (file : LogFile) (before events : List Event) → length file.bytes < 2 ^ 32 → AreShort (logged heads file before events)
logged_short heads file before [] short = tt
logged_short heads file before (e ∷ es) short = ((short, said_short heads file.bytes before e short), logged_short heads file (before ++ e ∷ []) es short)

both_short : (events others : List Logged) → AreShort events → AreShort others → AreShort (events ++ others)
both_short [] others first second = second
both_short (e ∷ es) others first second = (first.0, both_short es others first.1 second)

file_short : (heads : Heads) (file : LogFile) (events : Events) (behind : Log) → length file.bytes < 2 ^ 32 → AreShort behind.events → AreShort (with_file heads file events behind).events
file_short heads file events behind short rest = by events.fault where
  by : (fault : Option Fault) → AreShort (with_file heads file (record { list = events.list; fault = fault }) behind).events
  by None = both_short (logged heads file [] events.list) behind.events (logged_short heads file [] events.list short) rest
  by (Some f) = logged_short heads file [] events.list short

files_short : (heads : Heads) (start : ℕ) (files : List program_file.LogFile) → All IsShortFile files → AreShort (log_of heads start (map seen_file files)).events
files_short heads start [] short = tt
files_short heads start (f ∷ fs) short =
    file_short heads (seen_file f) (events_of f.bytes.now start (is_last (map seen_file fs))) (log_of heads 4 (map seen_file fs)) (first_of f fs short) (files_short heads 4 fs (others_of f fs short)) where
      first_of : (f : program_file.LogFile) (fs : List program_file.LogFile) → All IsShortFile (f ∷ fs) → IsShortFile f
      first_of f fs all = all 0 f (omega arith)

      others_of : (f : program_file.LogFile) (fs : List program_file.LogFile) → All IsShortFile (f ∷ fs) → All IsShortFile fs
      others_of f fs all = λ k d inside. all (suc k) d (omega arith)

-- so has the log that a stream begins with
pub log_short : (heads : Heads) (start : ℕ) (files : List program_file.LogFile) (log : Log) → All IsShortFile files → log ≡ log_of heads start (map seen_file files) → AreShort log.events
log_short heads start files log short is = rw is (files_short heads start files short)

-- what is left of a log whose next event was taken
pub rest_short : (old new : List Logged) (e : Logged) → old ≡ e ∷ new → AreShort old → IsShort e × AreShort new
rest_short old new e next short = rw next at short

-- the event that a stream gave is the next of its log
pub next_is : (old new : Log) (o : Option program_logged.Logged) (taken : program_logged.Logged) → o ≡ Some taken → IsNext old (option_map seen o) new → old.events ≡ seen taken ∷ new.events
next_is old new o taken is next = rw is at next

pub none_left : (old new : Log) (o : Option program_logged.Logged) → o ≡ None → IsNext old (option_map seen o) new → old.events ≡ []
none_left old new o is next = let both : IsNext old None new = rw is at next in both.0
