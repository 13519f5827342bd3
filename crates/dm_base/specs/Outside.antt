-- What a program sees of the outside. A content is an `Option`: `None` where it is not told.
use Rattle.std.specs.Prelude.{◌≡◌, ℕ, ◌+◌, ◌-◌, ◌^◌, ◌≤◌, min, ⊤, List, ◌++◌, length, take, Option, Some, None, IfSome, Result, Ok, Err}
use Rattle.std.specs.Option.{option_map, ForSome}
use Rattle.std.specs.Global.{Vec}
use Rattle.dm_base.specs.declared.shelf.ShelfError.{ShelfError}
use Rattle.dm_base.specs.declared.shelf.ShelfError.TheVariants.{Missing, Failed, Memory}

-- A count that is raised by one. It is a `u64`, and stays at the largest.
abbrev pub raised : ℕ → ℕ
raised count = min (count + 1) (2 ^ 64 - 1)

-- the count is greater than before, or stands at the largest
abbrev pub Rose : ℕ → ℕ → Type 0
Rose before now = raised before ≤ now

-- the bytes of each file, by the bytes of its name
abbrev pub Files : Type 0
Files = List ℕ → Option (List ℕ)

-- what is read of bytes of which at most `most` are wanted: one more tells that there are more
abbrev pub front_of : ℕ → List ℕ → List ℕ
front_of most bytes = take (most + 1) bytes

-- What was read is the front of the content.
abbrev pub IsFront : Option (List ℕ) → ℕ → List ℕ → Type 0
IsFront content most front = IfSome content (λ bytes. front ≡ front_of most bytes)

-- The answer is the front of the file, or that there is none of that name. A read may always fail or want memory.
abbrev pub ReadsFile : Option Files → List ℕ → ℕ → Result (Vec ℕ) ShelfError → Type 0
ReadsFile None name most result = ⊤
ReadsFile (Some files) name most (Ok front) = option_map (front_of most) (files name) ≡ Some front.items
ReadsFile (Some files) name most (Err Missing) = files name ≡ None
ReadsFile (Some files) name most (Err Failed) = ⊤
ReadsFile (Some files) name most (Err Memory) = ⊤

-- the content with a piece after it
abbrev pub added : Option (List ℕ) → List ℕ → Option (List ℕ)
added content piece = option_map (λ bytes. bytes ++ piece) content

-- some first bytes of the piece were added: none, or some, or all
abbrev pub AddsPart : Option (List ℕ) → List ℕ → Option (List ℕ) → Type 0
AddsPart before piece now = (count : ℕ) × (now ≡ added before (take count piece))

-- the first bytes of the content
abbrev pub cut_to : ℕ → Option (List ℕ) → Option (List ℕ)
cut_to count content = option_map (take count) content

-- the content has that many bytes, or more
abbrev pub IsWithin : ℕ → Option (List ℕ) → Type 0
IsWithin count content = ForSome content (λ bytes. count ≤ length bytes)
