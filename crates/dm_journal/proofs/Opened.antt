-- What the bytes that a journal loads say of it, and what a cut leaves.
use Rattle.std.proofs.Common.{◌≡◌, inl, inr, ℕ, ◌+◌, ◌<◌, ◌≤◌, List, length, Option, Some, None, ap, ◌∙◌, arith}
use Rattle.std.specs.Prelude.{◌⊎◌, IfSome, min}
use Rattle.std.proofs.lemmas.List.{length-take, take_all}
use Rattle.dm_base.specs.Outside.{IsFront, cut_to}
use Rattle.dm_target.specs.Memory.{calls_of, content_of}
use Rattle.dm_target.specs.declared.memory.MemoryTarget.{MemoryTarget}
use Rattle.dm_journal.specs.Contents.{Holds}
use Rattle.dm_journal.specs.declared.opening.JournalFault.TheVariants as fault
use Rattle.dm_journal.specs.Opening.{IsLeft}

-- The front of a journal.

pub front_is_all : (bytes : Option (List ℕ)) (most : ℕ) (front : List ℕ) → IsFront bytes most front → length front ≤ most → IfSome bytes (λ told. front ≡ told)
front_is_all None most front is few = tt
front_is_all (Some told) most front is few =
    let long : length front ≡ min (most + 1) (length told) = ap length is ∙ length-take (most + 1) told in
    is ∙ take_all (most + 1) told (omega (arith, long))

pub front_is_long : (bytes : Option (List ℕ)) (most : ℕ) (front : List ℕ) → IsFront bytes most front → most < length front → IfSome bytes (λ told. most < length told)
front_is_long None most front is many = tt
front_is_long (Some told) most front is many =
    let long : length front ≡ min (most + 1) (length told) = ap length is ∙ length-take (most + 1) told in
    omega (arith, long)

-- The whole records of a journal.

-- what is held, where it is told
abbrev pub IsHeld : Option (List ℕ) → MemoryTarget → ℕ → ℕ → Type 0
IsHeld bytes kept size whole = IfSome bytes (λ told. (length told ≡ size) × Holds told (content_of kept) (calls_of kept) whole)

-- a cut that failed has left all, or the whole records
pub cut_left : (bytes now : Option (List ℕ)) (kept : MemoryTarget) (size whole : ℕ) → IsHeld bytes kept size whole → (now ≡ bytes) ⊎ (now ≡ cut_to whole bytes) → IsLeft bytes now fault.Failed
cut_left bytes now kept size whole held (inl same) = inl same
cut_left bytes now kept size whole held (inr cut) = inr (whole, cut, by bytes held) where
  by : (b : Option (List ℕ)) → IsHeld b kept size whole → IfSome b (λ told. (t : MemoryTarget) × Holds told (content_of t) (calls_of t) whole)
  by None h = tt
  by (Some told) h = (kept, h.1)
