-- The table maps of a file, by their table ids.
use Rattle.std.specs.Prelude.{◌≡◌, ◌≤◌, ◌<◌, ◌^◌, ℕ, List, length, take, Option, Some, IfSome, if◌then◌else◌}
use Rattle.std.specs.BTreeMap.{BTreeMap, get}
use Rattle.std.specs.Ordering.{nat_cmp}
use Rattle.dm_binlog.specs.declared.event.Event.{Event}
use Rattle.dm_binlog.specs.Order.{AreInOrder}
use Rattle.dm_stream.specs.Sayings.{maps, last_map}

-- the event of a table id's table map
abbrev pub map_at : BTreeMap ℕ Event → ℕ → Option Event
map_at table_maps id = get nat_cmp table_maps id

-- an event's body lies within so many bytes
abbrev pub IsWithin : ℕ → Event → Type 0
IsWithin most e = (e.body ≤ e.end) × (e.end ≤ most)

abbrev pub AreWithin : ℕ → BTreeMap ℕ Event → Type 0
AreWithin most table_maps = (id : ℕ) → IfSome (map_at table_maps id) (IsWithin most)

-- each table id has the last of its maps among the events before
abbrev pub AreLast : List ℕ → List Event → BTreeMap ℕ Event → Type 0
AreLast file before table_maps = (id : ℕ) → map_at table_maps id ≡ last_map file id before

-- behind an event
abbrev pub Notes : List ℕ → Event → BTreeMap ℕ Event → BTreeMap ℕ Event → Type 0
Notes file e old new = (id : ℕ) → map_at new id ≡ (if maps file id e then Some e else map_at old id)

abbrev pub AreSame : BTreeMap ℕ Event → BTreeMap ℕ Event → Type 0
AreSame old new = (id : ℕ) → map_at new id ≡ map_at old id

-- what holds of a file that is read up to a place among its events
pub record IsKept (file : List ℕ) (events : List Event) (place : ℕ) (table_maps : BTreeMap ℕ Event) : Type 0 where
  pub short : length file < 2 ^ 32
  pub in_order : AreInOrder 0 events (length file)
  pub placed : place ≤ length events
  pub last : AreLast file (take place events) table_maps
  pub within : AreWithin (length file) table_maps
