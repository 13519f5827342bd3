-- What is left of a log that is read event by event.
use Rattle.std.specs.Prelude.{◌≡◌, ℕ, Bool, true, false, List, [], ◌∷◌, ◌++◌, length, Option, Some, None, Err}
use Rattle.std.specs.Option.{is_some}
use Rattle.dm_syntax.specs.declared.fault.DdlFault.TheVariants as ddl
use Rattle.dm_binlog.specs.declared.event.Event.{Event}
use Rattle.dm_binlog.specs.declared.event.Events.{Events}
use Rattle.dm_binlog.specs.declared.event.Fault.{Fault}
use Rattle.dm_stream.specs.Sayings.{Heads, said_of}
use Rattle.dm_stream.specs.Logs.{LogFile, Logged, Log, logged, log_fault, log_of}

-- a file whose events are read in turn: those before, those that are left, and the fault behind them
pub record FileRest : Type 0 where
  pub file : LogFile
  pub before : List Event
  pub behind : List Event
  pub fault : Option Fault

-- the file at the front, the files behind it, and where the next of them is begun
pub record Rest : Type 0 where
  pub front : FileRest
  pub files : List LogFile
  pub start : ℕ

-- none of a file's events was read
abbrev pub opened : LogFile → Events → FileRest
opened file events = record { file = file; before = []; behind = events.list; fault = events.fault }

-- what a file's events that are left say, and then the log behind it, unless the file has a fault
abbrev pub with_rest : Heads → FileRest → Log → Log
with_rest heads file_rest behind = by file_rest.fault where
  by : Option Fault → Log
  by (Some f) = record { events = logged heads file_rest.file file_rest.before file_rest.behind; fault = Some (log_fault file_rest.file f) }
  by None = record { events = logged heads file_rest.file file_rest.before file_rest.behind ++ behind.events; fault = behind.fault }

abbrev pub left : Heads → Rest → Log
left heads rest = with_rest heads rest.front (log_of heads rest.start rest.files)

-- heads that say nothing
abbrev pub no_heads : Heads
no_heads text = Err ddl.Memory

-- how many events are left, whatever heads say
abbrev pub events_left : Rest → ℕ
events_left rest = length (left no_heads rest).events

-- behind an event of the file
abbrev pub moved : FileRest → FileRest
moved file_rest = by file_rest.behind where
  by : List Event → FileRest
  by [] = file_rest
  by (e ∷ es) = record { file = file_rest.file; before = file_rest.before ++ e ∷ []; behind = es; fault = file_rest.fault }

-- the next event of the file
abbrev pub next_of : Heads → FileRest → Option Logged
next_of heads file_rest = by file_rest.behind where
  by : List Event → Option Logged
  by [] = None
  by (e ∷ es) = Some (record { file = file_rest.file; event = e; said = said_of heads file_rest.file.bytes file_rest.before e })

abbrev pub is_empty : {A : Type 0} → List A → Bool
is_empty [] = true
is_empty (x ∷ xs) = false

-- neither an event is left of the file nor a fault, so that the log goes on in the file behind it
abbrev pub is_passed : FileRest → Bool
is_passed file_rest = by (is_some file_rest.fault) where
  by : Bool → Bool
  by true = false
  by false = is_empty file_rest.behind

-- the log ends where the file at the front does, or an event of it is left
abbrev pub is_ready : Rest → Bool
is_ready rest = by (is_passed rest.front) where
  by : Bool → Bool
  by true = is_empty rest.files
  by false = true

-- the file at the front has no event any more, and the log ends with it
abbrev pub is_behind : Rest → Bool
is_behind rest = by (is_empty rest.front.behind) where
  by : Bool → Bool
  by true = is_ready rest
  by false = false

-- what is next in a log, and what is left behind it
abbrev pub IsNext : Log → Option Logged → Log → Type 0
IsNext before None after = (before.events ≡ []) × (after.events ≡ [])
IsNext before (Some e) after = before.events ≡ e ∷ after.events
