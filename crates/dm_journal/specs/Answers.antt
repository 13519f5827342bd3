-- Why a journal isn't read, and why a record isn't carried out.
use Rattle.std.specs.Prelude.{⊤, ℕ}
use Rattle.dm_journal.specs.declared.fault.ContentFault.{ContentFault}
use Rattle.dm_journal.specs.declared.fault.ContentFault.TheVariants as fault
use Rattle.dm_journal.specs.declared.fault.CarryFault.{CarryFault}
use Rattle.dm_journal.specs.declared.fault.CarryFault.TheVariants as carry

-- A bad place is one of which the fact holds. Want of memory may come at any time.
abbrev pub MatchFault : ContentFault → (ℕ → Type 0) → Type 0
MatchFault (fault.Bad at) IsBad = IsBad at
MatchFault fault.Memory IsBad = ⊤

-- the fault of a journal whose record at a byte isn't carried out
abbrev pub fault_at : CarryFault → ℕ → ContentFault
fault_at carry.Bad at = fault.Bad at
fault_at carry.Memory at = fault.Memory
