-- A target whose calls are written to a journal: what it holds, and the record of each call.
use Rattle.std.specs.Prelude.{◌≡◌, ⊤, ℕ, ◌+◌, ◌≤◌, ◌↔◌, Bool, false, ◌==◌, nat_lt, List, [], ◌∷◌, length, Option, Some, None, is_none, IfSome, if◌then◌else◌, Result, Ok, Err, IsTrue, IsErrOf}
use Rattle.std.specs.Option.{option_map_or}
use Rattle.dm_base.specs.Outside.{AddsPart, added}
use Rattle.dm_join.specs.Alteration.{alteration}
use Rattle.dm_target.specs.Contents.{Content, effect, no_content, table_of}
use Rattle.dm_target.specs.Memory.{calls_of, content_of}
use Rattle.dm_target.specs.Writing.{Grows, IsWhole, NotFailed, Writes}
use Rattle.dm_target.specs.declared.call.Call.{Call}
use Rattle.dm_target.specs.declared.call.Call.TheVariants as call
use Rattle.dm_target.specs.declared.memory.MemoryTarget.{MemoryTarget}
use Rattle.dm_target.specs.declared.target.TargetError.{TargetError}
use Rattle.dm_target.specs.declared.target.TargetError.TheVariants as error
use Rattle.dm_stmt.specs.declared.record.Record.{Record}
use Rattle.dm_stmt.specs.declared.record.Record.TheVariants as record_of
use Rattle.dm_stmt.specs.Texts.{record_text}
use Rattle.dm_journal.specs.Contents.{Does, Holds, Leads, known_of}
use Rattle.dm_journal.specs.Framing.{framed}
use Rattle.dm_journal.specs.declared.doubt.Doubt.{Doubt}

-- Records of calls.

-- the record of a call; an alteration is written as the changes to its schema from the table's
abbrev pub record_for : Content → Call → Record
record_for content (call.Create table layout) = record_of.Create table layout
record_for content (call.Alter table layout) = record_of.Alter table (option_map_or (λ there. alteration there.layout layout) (table_of content table) [])
record_for content (call.Apply table ops) = record_of.Apply table ops
record_for content (call.Metas pairs) = record_of.Metas pairs

-- its text, over the schemas of the tables that are there
abbrev pub call_text : Content → Call → List ℕ
call_text content done = record_text (known_of content) (record_for content done)

-- the text does what the call does, wherever that has an effect
abbrev pub IsTextFor : Content → Call → List ℕ → Type 0
IsTextFor content done text = (after : Content) → effect done content ≡ Ok after → Does content text done after

-- a journal has no more bytes
abbrev pub most_bytes : ℕ
most_bytes = 268435456

-- a record takes a journal of that size past them
abbrev pub is_full : ℕ → List ℕ → Bool
is_full size text = nat_lt most_bytes (size + length (framed text))

-- A call in doubt.

-- what was kept before it
abbrev pub kept_before : List (MemoryTarget × Unit {0}) → MemoryTarget → MemoryTarget
kept_before [] kept = kept
kept_before (first ∷ rest) kept = first.0

-- its record is whole, so that it took its effect, as far as the journal's bytes are told
abbrev pub is_whole : Option (List ℕ) → Doubt → Bool
is_whole None doubt = false
is_whole (Some bytes) doubt = length bytes == doubt.whole

-- what the target holds: what is kept, or, where a call is in doubt that took no effect, what was kept before
abbrev pub held : Option (List ℕ) → MemoryTarget → Option Doubt → MemoryTarget
held bytes kept None = kept
held bytes kept (Some doubt) = if is_whole bytes doubt then kept else kept_before doubt.before.items kept

-- The journal's bytes.

-- the bytes' records lead to what a target holds
abbrev pub IsHeldIn : List ℕ → MemoryTarget → Type 0
IsHeldIn bytes target = (size : ℕ) × Holds bytes (content_of target) (calls_of target) size

-- Without a call in doubt the journal has so many bytes, and is whole records. With one there may be a torn rest.
abbrev pub Says : List ℕ → MemoryTarget → ℕ → Option Doubt → Type 0
Says bytes kept size None = Leads no_content bytes (calls_of kept) (content_of kept) × (length bytes ≡ size)
Says bytes kept size (Some doubt) = IsHeldIn bytes (held (Some bytes) kept (Some doubt))

-- What a target that writes a journal keeps is what the journal says, where its bytes are told.
pub record IsJournaled (bytes : Option (List ℕ)) (kept : MemoryTarget) (size : ℕ) (doubt : Option Doubt) : Type 0 where
  pub few : size ≤ most_bytes
  pub says : IfSome bytes (λ told. Says told kept size doubt)

-- Calls that are written.

-- a call that has its effect adds its record, one that failed a part of it, and another nothing
abbrev pub Appends : List ℕ → Option (List ℕ) → Option (List ℕ) → Result (Unit {0}) TargetError → Type 0
Appends piece before now (Ok _) = now ≡ added before piece
Appends piece before now (Err (error.Rejected fault)) = now ≡ before
Appends piece before now (Err error.Failed) = AddsPart before piece now
Appends piece before now (Err error.Full) = now ≡ before
Appends piece before now (Err error.Memory) = now ≡ before

-- why a call is not made that would make the journal too long
abbrev pub IsRefusal : Call → Content → Result (Unit {0}) TargetError → Type 0
IsRefusal done content (Ok _) = ⊥
IsRefusal done content (Err (error.Rejected fault)) = effect done content ≡ Err fault
IsRefusal done content (Err error.Failed) = ⊥
IsRefusal done content (Err error.Full) = (left : Content) × (effect done content ≡ Ok left)
IsRefusal done content (Err error.Memory) = ⊤

-- What a call leaves that is written: of what the target holds, and of the journal's bytes.
pub record Wrote (full : Call → Bool) (done : Call) (piece : List ℕ) (before : Option (List ℕ)) (holding : MemoryTarget) (now : Option (List ℕ)) (kept : MemoryTarget) (doubt : Option Doubt) (answer : Result (Unit {0}) TargetError) : Type 0 where
  pub written : Writes done full (Some (content_of holding)) (Some (content_of (held now kept doubt))) answer
  pub calls : Grows done (Some (calls_of holding)) (Some (calls_of (held now kept doubt))) answer
  pub whole : IsErrOf answer error.Failed
      → IsWhole done (Some (content_of holding)) (Some (content_of (held now kept doubt))) (Some (calls_of holding)) (Some (calls_of (held now kept doubt)))
  pub sound : IsTrue (is_none doubt) ↔ NotFailed answer
  pub appends : Appends piece before now answer
