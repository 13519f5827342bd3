-- What the kinds that are kept in memory hold, and what a call leaves of it.
use Rattle.std.specs.Prelude.{◌≡◌, ℕ, ◌+◌, ◌<◌, Bool, if◌then◌else◌, ◌⊎◌, List, [], ◌++◌, ◌==◌, length, take, slice_get, position, unwrap_or, bytes_eq, String, string_bytes, Result, Ok, Err}
use Rattle.std.specs.Global.{Global, Vec}
use Rattle.std.specs.List.{list_any}
use Rattle.std.specs.Option.{option_and_then, option_map}
use Rattle.dm_base.specs.Outside.{raised, Files}
use Rattle.dm_base.specs.declared.shelf.ShelfError.{ShelfError}
use Rattle.dm_base.specs.declared.shelf.ShelfError.TheVariants as shelf_error
use Rattle.dm_base.specs.declared.sink.SinkError.{SinkError}
use Rattle.dm_base.specs.declared.journal.JournalError.{JournalError}
use Rattle.dm_base.specs.declared.journal.JournalError.TheVariants as journal_error

-- whether the call after so many is to fail: its number is in the list
abbrev pub is_to_fail : List ℕ → ℕ → Bool
is_to_fail failing calls = list_any (λ number. number == raised calls) failing

-- A memory shelf: the names of its files, and the bytes of each in the same order; the numbers of the calls that are to
-- fail; how many calls there were, how many of them failed, and how many found no file.
pub record ShelfContent : Type 0 where
  pub names : List (String Global)
  pub contents : List (Vec ℕ)
  pub failing : List ℕ
  pub calls : ℕ
  pub faults : ℕ
  pub misses : ℕ

-- the bytes of the first file of the name
abbrev pub file_of : List (String Global) → List (Vec ℕ) → Files
file_of names contents name =
    let place = position (λ file. bytes_eq (string_bytes file) name) names in
    option_map (λ bytes. bytes.items) (option_and_then (slice_get contents) place)

-- Each read counts, and once more where it fails or finds no file.
abbrev pub shelf_after : Result (Vec ℕ) ShelfError → ShelfContent → ShelfContent
shelf_after (Ok _) shelf = record shelf { calls = raised shelf.calls }
shelf_after (Err shelf_error.Missing) shelf = record shelf { calls = raised shelf.calls; misses = raised shelf.misses }
shelf_after (Err shelf_error.Failed) shelf = record shelf { calls = raised shelf.calls; faults = raised shelf.faults }
shelf_after (Err shelf_error.Memory) shelf = record shelf { calls = raised shelf.calls }

-- A memory sink: the bytes that it has taken, and how many it has room for; the numbers of the calls that are to
-- fail; how many calls there were, and how many of them failed.
pub record SinkContent : Type 0 where
  pub contents : List ℕ
  pub room : ℕ
  pub failing : List ℕ
  pub calls : ℕ
  pub faults : ℕ

-- There is no room for a piece after the bytes, so a sink or journal of them must grow, for which it takes memory.
abbrev pub LacksRoom : ℕ → List ℕ → List ℕ → Type 0
LacksRoom room bytes piece = room < length bytes + length piece

-- A put adds all of the bytes, or it fails and adds none.
abbrev pub sink_after : Result (Unit {0}) SinkError → List ℕ → SinkContent → SinkContent
sink_after (Ok _) bytes sink = record sink { contents = sink.contents ++ bytes; calls = raised sink.calls }
sink_after (Err _) bytes sink = record sink { calls = raised sink.calls; faults = raised sink.faults }

-- A memory journal: its bytes, and how many it has room for; the numbers of the calls that are to fail, and how
-- many bytes of the piece each append among those keeps; how many calls there were, how many of them failed, and how
-- many appends were to fail.
pub record JournalContent : Type 0 where
  pub contents : List ℕ
  pub room : ℕ
  pub failing : List ℕ
  pub kept : List ℕ
  pub calls : ℕ
  pub faults : ℕ
  pub failed_appends : ℕ

abbrev pub load_after : Result (Vec ℕ) JournalError → JournalContent → JournalContent
load_after (Ok _) journal = record journal { calls = raised journal.calls }
load_after (Err journal_error.Failed) journal = record journal { calls = raised journal.calls; faults = raised journal.faults }
load_after (Err journal_error.Memory) journal = record journal { calls = raised journal.calls }

-- A cut that fails leaves the bytes as they were.
abbrev pub cut_after : Result (Unit {0}) JournalError → ℕ → JournalContent → JournalContent
cut_after (Ok _) count journal = record journal { contents = take count journal.contents; calls = raised journal.calls }
cut_after (Err _) count journal = record journal { calls = raised journal.calls; faults = raised journal.faults }

-- what an append that fails keeps of the piece: the first bytes where it is to fail, and else none
abbrev pub part_kept : JournalContent → List ℕ → List ℕ
part_kept journal piece =
    let count = unwrap_or (slice_get journal.kept journal.failed_appends) 0 in
    if is_to_fail journal.failing journal.calls then take count piece else []

-- The part was added, or nothing was, since there was no room for it.
abbrev pub AddsOrLacksRoom : ℕ → List ℕ → List ℕ → List ℕ → Type 0
AddsOrLacksRoom room before part now = (now ≡ before ++ part) ⊎ ((now ≡ before) × LacksRoom room before part)

-- what an append counts: the call, and where it fails the fault, and whether it was to fail
abbrev pub append_counted : Result (Unit {0}) JournalError → JournalContent → JournalContent
append_counted (Ok _) journal = record journal { calls = raised journal.calls }
append_counted (Err _) journal =
    let to_fail = is_to_fail journal.failing journal.calls in
    record journal { calls = raised journal.calls; faults = raised journal.faults; failed_appends = if to_fail then raised journal.failed_appends else journal.failed_appends }
