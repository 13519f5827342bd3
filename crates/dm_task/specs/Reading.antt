-- Reading the values of a TOML document, up to the first fault.
use Rattle.std.specs.Prelude.{ℕ, Bool, true, false, ◌&&◌, nat_le, List, [], ◌∷◌, ◌++◌, length, Option, Some, None, Result, Ok, Err, if◌then◌else◌}
use Rattle.std.specs.List.{list_any}
use Rattle.toml.specs.Data.{Data, Items, no_items, item, Members, no_members, member, as_array, as_table, get_member}
use Rattle.dm_schema.specs.Names.{same_name}
use Rattle.dm_task.specs.declared.fault.TaskCause.{TaskCause}
use Rattle.dm_task.specs.declared.fault.TaskCause.TheVariants as cause
use Rattle.dm_task.specs.declared.fault.TaskFault.{TaskFault}
use Rattle.dm_task.specs.declared.fault.TaskFault.TheVariants.{At, Memory}
use Rattle.dm_task.specs.Paths.{Text, Path, below, element}

abbrev pub is_memory : TaskFault → Bool
is_memory Memory = true
is_memory (At path cause) = false

-- a value, or the first fault
abbrev pub Read : Type 0 → Type 0
Read A = Result A TaskFault

-- what a value at a path says
abbrev pub Reads : Type 0 → Type 0
Reads A = Path → Data → Read A

-- what an element of an array says, behind what the elements before it say
abbrev pub ReadsElement : Type 0 → Type 0
ReadsElement A = List A → Path → Data → Read A

abbrev pub refused : {A : Type 0} → Path → TaskCause → Read A
refused path cause = Err (At path cause)

abbrev pub and_then : {A B : Type 0} → Read A → (A → Read B) → Read B
and_then (Ok x) next = next x
and_then (Err fault) next = Err fault

-- a value that was read, seen as what it stands for
abbrev pub seen : {A B : Type 0} → (A → B) → Read A → Read B
seen view (Ok x) = Ok (view x)
seen view (Err fault) = Err fault

-- the first fault of the two, in this order
infixl 10 ◌>>=◌
abbrev pub ◌>>=◌ : {A B : Type 0} → Read A → (A → Read B) → Read B
read >>= next = and_then read next

abbrev pub is_within : ℕ → ℕ → ℕ → Bool
is_within least greatest n = nat_le least n && nat_le n greatest

-- Keys of a table.

abbrev pub needed : {A : Type 0} → Reads A → Text → Path → Members → Read A
needed {A = A} read key path members = by (get_member key members) where
  by : Option Data → Read A
  by None = refused (below path key) cause.Absent
  by (Some value) = read (below path key) value

abbrev pub optional : {A : Type 0} → A → Reads A → Text → Path → Members → Read A
optional {A = A} default read key path members = by (get_member key members) where
  by : Option Data → Read A
  by None = Ok default
  by (Some value) = read (below path key) value

abbrev pub is_listed : List Text → Text → Bool
is_listed keys key = list_any (λ listed. same_name listed key) keys

-- the first key in byte order that isn't listed, since members stand in that order
abbrev pub first_unlisted : List Text → Members → Option Text
first_unlisted keys no_members = None
first_unlisted keys (member key value rest) = if is_listed keys key then first_unlisted keys rest else Some key

-- the members of a table all of whose keys are listed
abbrev pub listed : List Text → Path → Members → Read Members
listed keys path members = by (first_unlisted keys members) where
  by : Option Text → Read Members
  by None = Ok members
  by (Some key) = refused (below path key) cause.Unknown

-- the same of a value, which has to be a table
abbrev pub members_in : List Text → Reads Members
members_in keys path value = by (as_table value) where
  by : Option Members → Read Members
  by None = refused path cause.Kind
  by (Some members) = listed keys path members

-- Elements of an array.

abbrev pub data_of : Items → List Data
data_of no_items = []
data_of (item value rest) = value ∷ data_of rest

-- the elements in turn, behind those before them
abbrev pub elements : {A : Type 0} → ReadsElement A → Path → List A → List Data → Read (List A)
elements read path earlier [] = Ok earlier
elements read path earlier (value ∷ rest) =
    read earlier (element path (length earlier)) value >>= λ x. elements read path (earlier ++ x ∷ []) rest

-- an array of any length
abbrev pub array : {A : Type 0} → ReadsElement A → Reads (List A)
array {A = A} read path value = by (as_array value) where
  by : Option Items → Read (List A)
  by None = refused path cause.Kind
  by (Some items) = elements read path [] (data_of items)

-- the same of a list whose length has to lie between these
abbrev pub elements_within : {A : Type 0} → ℕ → ℕ → ReadsElement A → Path → List Data → Read (List A)
elements_within least greatest read path list = if is_within least greatest (length list) then elements read path [] list else refused path cause.Range

-- an array whose length lies between these
abbrev pub array_within : {A : Type 0} → ℕ → ℕ → ReadsElement A → Reads (List A)
array_within {A = A} least greatest read path value = by (as_array value) where
  by : Option Items → Read (List A)
  by None = refused path cause.Kind
  by (Some items) = elements_within least greatest read path (data_of items)
