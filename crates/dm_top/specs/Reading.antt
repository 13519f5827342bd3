-- Reading files by name, in turn, as far as there is room.
use Rattle.std.specs.Prelude.{◌≡◌, ⊤, ℕ, ◌-◌, nat_lt, true, List, [], ◌∷◌, ◌++◌, length, map, Option, Some, None, Result, Ok, Err, if◌then◌else◌}
use Rattle.std.specs.Global.{Vec}
use Rattle.dm_base.specs.Outside.{Files}
use Rattle.dm_schema.specs.Names.{Text}
use Rattle.dm_report.specs.declared.status.Status.{Status}
use Rattle.dm_report.specs.declared.status.Status.TheVariants as status
use Rattle.dm_report.specs.declared.status.Which.TheVariants as which
use Rattle.dm_top.specs.declared.files.NamedFile.{NamedFile}
use Rattle.dm_top.specs.declared.files.ReadFault.{ReadFault}
use Rattle.dm_top.specs.declared.files.ReadFault.TheVariants as fault

-- how many bytes all files that a command reads have together at most
abbrev pub most_bytes : ℕ
most_bytes = 134217728

-- a file: its name and its bytes
abbrev pub Named : Type 0
Named = Text × Text

abbrev pub with_first : Named → Result (List Named) Status → Result (List Named) Status
with_first file (Ok others) = Ok (file ∷ others)
with_first file (Err s) = Err s

-- a file of this name, where there is room for it, and then the others in the room that it leaves
abbrev pub placed : ℕ → Text → Option Text → (ℕ → Result (List Named) Status) → Result (List Named) Status
placed room name None others = Err (status.Missing name)
placed room name (Some text) others =
    if nat_lt room (length text) then Err (status.Limit which.Files) else with_first (name, text) (others (room - length text))

-- The files of these names, a file as often as it is named; or how it ends at the first that isn't there, or that is
-- longer than the room that those before it left.
abbrev pub files_of : Files → ℕ → List Text → Result (List Named) Status
files_of files room [] = Ok []
files_of files room (name ∷ names) = placed room name (files name) (λ left. files_of files left names)

-- the files that were read
abbrev pub named_of : List NamedFile → List Named
named_of read = map (λ f. (f.name, f.bytes.items)) read

-- how a command ends at a file that wasn't read
abbrev pub status_of : ReadFault → Status
status_of (fault.Missing name) = status.Missing name
status_of fault.TooLong = status.Limit which.Files
status_of fault.Failed = status.ReadFault
status_of fault.Memory = status.Memory

-- What was read is the files of these names, or how it ends; a read may fail, and memory may run out.
abbrev pub ReadsFiles : Files → ℕ → List Text → Result (Vec NamedFile) ReadFault → Type 0
ReadsFiles files room names (Ok read) = files_of files room names ≡ Ok (named_of read.items)
ReadsFiles files room names (Err (fault.Missing name)) = files_of files room names ≡ Err (status.Missing name)
ReadsFiles files room names (Err fault.TooLong) = files_of files room names ≡ Err (status.Limit which.Files)
ReadsFiles files room names (Err fault.Failed) = ⊤
ReadsFiles files room names (Err fault.Memory) = ⊤

-- One file that was read, where there is room for it; or how it ends.
abbrev pub ReadsFile : Files → ℕ → Text → Result NamedFile ReadFault → Type 0
ReadsFile files room name (Ok file) = (file.name ≡ name) × (files name ≡ Some file.bytes.items)
ReadsFile files room name (Err (fault.Missing missing)) = (missing ≡ name) × (files name ≡ None)
ReadsFile files room name (Err fault.TooLong) = (text : Text) × (files name ≡ Some text) × (nat_lt room (length text) ≡ true)
ReadsFile files room name (Err fault.Failed) = ⊤
ReadsFile files room name (Err fault.Memory) = ⊤

abbrev pub with_front : List Named → Result (List Named) Status → Result (List Named) Status
with_front front (Ok others) = Ok (front ++ others)
with_front front (Err s) = Err s

-- A further file was read: behind those before it come it and the others; or how it ends.
abbrev pub ReadsNext : Files → ℕ → Text → List NamedFile → List NamedFile → Result ℕ ReadFault → Type 0
ReadsNext files room name before now (Ok left) = (names : List Text) → with_front (named_of now) (files_of files left names) ≡ with_front (named_of before) (files_of files room (name ∷ names))
ReadsNext files room name before now (Err (fault.Missing missing)) = (names : List Text) → files_of files room (name ∷ names) ≡ Err (status.Missing missing)
ReadsNext files room name before now (Err fault.TooLong) = (names : List Text) → files_of files room (name ∷ names) ≡ Err (status.Limit which.Files)
ReadsNext files room name before now (Err fault.Failed) = ⊤
ReadsNext files room name before now (Err fault.Memory) = ⊤

-- There is no file of some name.
abbrev pub IsMissing : {A : Type 0} → Result A ReadFault → Type 0
IsMissing (Ok value) = ⊥
IsMissing (Err (fault.Missing name)) = Unit {0}
IsMissing (Err fault.TooLong) = ⊥
IsMissing (Err fault.Failed) = ⊥
IsMissing (Err fault.Memory) = ⊥
