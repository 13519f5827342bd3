-- The binlogs of a source: the events of its files in turn, up to the first fault of their framing.
use Rattle.std.specs.Prelude.{ℕ, Bool, true, false, List, [], ◌∷◌, ◌++◌, Option, Some, None}
use Rattle.dm_syntax.specs.declared.parsing.Extent.TheVariants as extent
use Rattle.dm_syntax.specs.Parsing.{Says}
use Rattle.dm_ddl.specs.Heads.{head_unless}
use Rattle.dm_binlog.specs.declared.event.Event.{Event}
use Rattle.dm_binlog.specs.declared.event.Events.{Events}
use Rattle.dm_binlog.specs.declared.event.Fault.{Fault}
use Rattle.dm_binlog.specs.Framing.{events_of}
use Rattle.dm_stream.specs.declared.event.LogFault.{LogFault}
use Rattle.dm_stream.specs.Causes.{source_cause}
use Rattle.dm_stream.specs.Sayings.{Heads, Said, said_of}

-- a file of a source: its number among the task's files, and its bytes
pub record LogFile : Type 0 where
  pub number : ℕ
  pub bytes : List ℕ

-- an event with its file and what it says
pub record Logged : Type 0 where
  pub file : LogFile
  pub event : Event
  pub said : Said

-- the events of a source, and why they can't be read any further
pub record Log : Type 0 where
  pub events : List Logged
  pub fault : Option LogFault

-- what heads of statements say, by their grammar
abbrev pub AreHeads : Heads → Type 0
AreHeads heads = (text : List ℕ) → Says extent.Head (head_unless text) text (heads text)

-- the events of a file from one on, behind those before it
abbrev pub logged : Heads → LogFile → List Event → List Event → List Logged
logged heads file before [] = []
logged heads file before (e ∷ es) =
    record { file = file; event = e; said = said_of heads file.bytes before e } ∷ logged heads file (before ++ e ∷ []) es

abbrev pub log_fault : LogFile → Fault → LogFault
log_fault file f = record { file = file.number; at = f.at; cause = source_cause f.cause }

-- a file is the last where none stands behind it
abbrev pub is_last : List LogFile → Bool
is_last [] = true
is_last (f ∷ fs) = false

-- the events of a file and those of the files behind it, unless it has a fault
abbrev pub with_file : Heads → LogFile → Events → Log → Log
with_file heads file events behind = by events.fault where
  by : Option Fault → Log
  by (Some f) = record { events = logged heads file [] events.list; fault = Some (log_fault file f) }
  by None = record { events = logged heads file [] events.list ++ behind.events; fault = behind.fault }

-- The log of files in turn, of which the first is read from a place on, and the last may end in an event that isn't whole.
abbrev pub log_of : Heads → ℕ → List LogFile → Log
log_of heads start [] = record { events = []; fault = None }
log_of heads start (f ∷ fs) = with_file heads f (events_of f.bytes start (is_last fs)) (log_of heads 4 fs)
