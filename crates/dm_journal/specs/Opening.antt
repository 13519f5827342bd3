-- What opening a journal gives, by its bytes where they are told.
use Rattle.std.specs.Prelude.{◌≡◌, ◌⊎◌, ⊤, ℕ, ◌<◌, ◌≤◌, List, length, take, Option, Some, IfSome}
use Rattle.dm_base.specs.Outside.{cut_to}
use Rattle.dm_target.specs.Memory.{calls_of, content_of}
use Rattle.dm_target.specs.declared.memory.MemoryTarget.{MemoryTarget}
use Rattle.dm_journal.specs.Contents.{Holds, IsBadAt}
use Rattle.dm_journal.specs.Journaled.{most_bytes}
use Rattle.dm_journal.specs.declared.opening.JournalFault.{JournalFault}
use Rattle.dm_journal.specs.declared.opening.JournalFault.TheVariants as fault

-- The journal's whole records lead to what the target keeps. They are left of its bytes, and nothing else.
pub record IsOpened (bytes : List ℕ) (now : Option (List ℕ)) (kept : MemoryTarget) (size : ℕ) : Type 0 where
  pub few : length bytes ≤ most_bytes
  pub holds : Holds bytes (content_of kept) (calls_of kept) size
  pub left : now ≡ Some (take size bytes)

-- Why a journal's bytes are not opened. That it fails, and want of memory, may come at any time.
abbrev pub IsUnopened : List ℕ → JournalFault → Type 0
IsUnopened bytes fault.Failed = ⊤
IsUnopened bytes fault.Long = most_bytes < length bytes
IsUnopened bytes (fault.Bad at) = IsBadAt bytes at × (length bytes ≤ most_bytes)
IsUnopened bytes fault.Memory = ⊤

-- A journal that isn't opened stays as it was. Only where it failed may a torn rest be cut.
abbrev pub IsLeft : Option (List ℕ) → Option (List ℕ) → JournalFault → Type 0
IsLeft before now fault.Failed = (now ≡ before) ⊎ ((size : ℕ) × (now ≡ cut_to size before) × IfSome before (λ bytes. (kept : MemoryTarget) × Holds bytes (content_of kept) (calls_of kept) size))
IsLeft before now fault.Long = now ≡ before
IsLeft before now (fault.Bad at) = now ≡ before
IsLeft before now fault.Memory = now ≡ before
