-- The framing of a binlog file of version 4: its first bytes, and events one behind another, each with a header of 19
-- bytes (MySQL's manual of internals, "Binlog Event Header"): timestamp, type at 4, server id, size at 9, position, flags.
use Rattle.std.specs.Prelude.{ℕ, zero, suc, ◌+◌, ◌-◌, nat_lt, nat_le, Bool, true, false, not, ◌&&◌, ◌||◌, ◌==◌, nat_eq, List, [], ◌∷◌, length, take, drop, slice_index, slice_range, Option, Some, None, if◌then◌else◌}
use Rattle.std.specs.Option.{option_map_or}
use Rattle.std.specs.List.{list_any, list_all, filter}
use Rattle.std.specs.Cmp.Lexicographic.{pointwise}
use Rattle.dm_list.specs.Answer.{first_refusal}
use Rattle.dm_base.specs.Reading.{le_value}
use Rattle.dm_binlog.specs.declared.event.Event.{Event}
use Rattle.dm_binlog.specs.declared.event.Events.{Events}
use Rattle.dm_binlog.specs.declared.event.Fault.{Fault}
use Rattle.dm_binlog.specs.declared.event.SourceCause.{SourceCause}
use Rattle.dm_binlog.specs.declared.event.SourceCause.TheVariants as cause
use Rattle.dm_binlog.specs.declared.event.TheConstants.{FORMAT_DESCRIPTION}

abbrev pub magic : List ℕ
magic = 254 ∷ 98 ∷ 105 ∷ 110 ∷ []

abbrev pub header_length : ℕ
header_length = 19

-- What the bytes from a place on begin with: a whole event of a type and size; the open tail of the last file; or
-- damage.
pub data Front : Type 0 where
  Whole : ℕ → ℕ → Front
  Tail : Front
  Damage : Front

-- an event that isn't there to its end
abbrev pub unfinished : Bool → Front
unfinished true = Tail
unfinished false = Damage

abbrev pub event_size : List ℕ → ℕ
event_size bytes = le_value (take 4 (drop 9 bytes))

abbrev pub front_of : Bool → List ℕ → Front
front_of last bytes =
    if nat_lt (length bytes) header_length then unfinished last
    else if nat_lt (event_size bytes) header_length then Damage
    else if nat_lt (length bytes) (event_size bytes) then unfinished last
    else Whole (slice_index bytes 4) (event_size bytes)

abbrev pub event_at : ℕ → ℕ → ℕ → Event
event_at kind size at = record { kind = kind; at = at; body = at + header_length; end = at + size }

abbrev pub no_events : Option Fault → Events
no_events fault = record { list = []; fault = fault }

abbrev pub fault_at : ℕ → SourceCause → Option Fault
fault_at at cause = Some (record { at = at; cause = cause })

abbrev pub with_event : Event → Events → Events
with_event e events = record { list = e ∷ events.list; fault = events.fault }

-- what a front at a place gives, where the rest gives what it does behind so many bytes
abbrev pub told : Front → ℕ → (ℕ → Events) → Events
told (Whole kind size) at behind = with_event (event_at kind size at) (behind size)
told Tail at behind = no_events None
told Damage at behind = no_events (fault_at at cause.Size)

-- the events from a place on, of whose front so many bytes belong to the event before
unfoldable pub framed : Bool → ℕ → ℕ → List ℕ → Events
framed last at inside [] = no_events None
framed last at (suc inside) (b ∷ bs) = framed last (at + 1) inside bs
framed last at zero (b ∷ bs) = told (front_of last (b ∷ bs)) at (λ size. framed last (at + 1) (size - 1) bs)

-- The body of a FORMAT_DESCRIPTION: version, 50 bytes of the server's version, time of creation, the header's length at
-- 56, the post-header lengths of the types from 1 on, the checksum algorithm, and 4 bytes.

abbrev pub post_header_length : List ℕ → ℕ → ℕ
post_header_length body kind = slice_index body (56 + kind)

-- version 4, headers of 19 bytes, 32 post-header lengths or more, and those of the types that are read
abbrev pub is_format : List ℕ → Bool
is_format body =
    nat_le 94 (length body)
    && le_value (take 2 body) == 4
    && slice_index body 56 == header_length
    && post_header_length body 2 == 13
    && post_header_length body 19 == 8
    && list_all (λ kind. post_header_length body kind == 8 || post_header_length body kind == 0) (23 ∷ 24 ∷ 25 ∷ [])
    && list_all (λ kind. post_header_length body kind == 10) (30 ∷ 31 ∷ 32 ∷ [])

abbrev pub checksum_algorithm : List ℕ → ℕ
checksum_algorithm body = slice_index body (length body - 5)

-- what is wrong with a file's first event
abbrev pub format_fault : List ℕ → Event → Option SourceCause
format_fault file e = by (slice_range file e.body e.end) where
  by : List ℕ → Option SourceCause
  by body =
      first_refusal
      ((not (e.kind == FORMAT_DESCRIPTION), cause.NoFormat)
      ∷ (not (is_format body), cause.Format)
      ∷ (not (checksum_algorithm body == 0), cause.Checksum)
      ∷ [])

-- the events, unless the first of them isn't the format that is read
abbrev pub checked : List ℕ → Events → Events
checked file events = by events.list where
  by : List Event → Events
  by [] = events
  by (e ∷ es) = option_map_or (λ cause. no_events (fault_at e.at cause)) (format_fault file e) events

-- the first event and those from the start on
abbrev pub from_start : ℕ → List Event → List Event
from_start start events = filter (λ e. e.at == 4 || nat_le start e.at) events

-- the start is the first event's place, or the end of a whole event
abbrev pub is_boundary : ℕ → List Event → Bool
is_boundary start events = start == 4 || list_any (λ e. e.end == start) events

abbrev pub is_before : Option Fault → ℕ → Bool
is_before None start = false
is_before (Some fault) start = nat_lt fault.at start

-- The events that are asked for, and the fault of the lower place: the framing's, or that nothing ends at the start.
abbrev pub started : ℕ → Events → Events
started start events =
    if is_boundary start events.list || is_before events.fault start
    then record { list = from_start start events.list; fault = events.fault }
    else record { list = filter (λ e. e.at == 4) events.list; fault = fault_at start cause.Start }

-- the last file may end before its first four bytes do
abbrev pub is_open_magic : List ℕ → Bool
is_open_magic file = nat_lt (length file) 4 && pointwise nat_eq file (take (length file) magic)

-- the first event of a file and those from the start on, up to the first fault
abbrev pub events_of : List ℕ → ℕ → Bool → Events
events_of file start last =
    if last && is_open_magic file then no_events None
    else if not (pointwise nat_eq (take 4 file) magic) then no_events (fault_at 0 cause.Magic)
    else started start (checked file (framed last 4 0 (drop 4 file)))
