-- What an append leaves of a journal and of the doubts about it.
use Rattle.std.specs.Prelude.{◌≡◌, ℕ, ◌+◌, List, length, Option, Some, None, Result, Ok, Err}
use Rattle.dm_base.specs.Outside.{AddsPart, added}
use Rattle.dm_target.specs.declared.target.TargetError.{TargetError}
use Rattle.dm_target.specs.declared.target.TargetError.TheVariants as error
use Rattle.dm_target.specs.declared.memory.MemoryTarget.{MemoryTarget}
use Rattle.http_server.specs.declared.log.Log.{Log}
use Rattle.dm_journal.specs.declared.doubt.Doubt.{Doubt}

-- It added the piece, or failed, and the call is in doubt.
abbrev pub HasAppended : Log MemoryTarget (Unit {0}) → List ℕ → Option (List ℕ) → ℕ → Option (List ℕ) → ℕ → Option Doubt → Result (Unit {0}) TargetError → Type 0
HasAppended before piece bytes size now now_size doubt (Ok _) = (now ≡ added bytes piece) × (now_size ≡ size + length piece) × (doubt ≡ None)
HasAppended before piece bytes size now now_size doubt (Err (error.Rejected fault)) = ⊥
HasAppended before piece bytes size now now_size doubt (Err error.Failed) =
    AddsPart bytes piece now × (now_size ≡ size) × (doubt ≡ Some (record { before = before; whole = size + length piece }))
HasAppended before piece bytes size now now_size doubt (Err error.Full) = ⊥
HasAppended before piece bytes size now now_size doubt (Err error.Memory) = ⊥
