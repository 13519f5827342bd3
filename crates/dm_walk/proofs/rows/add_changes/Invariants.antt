use Rattle.std.proofs.Common.{◌≤◌, ◌+◌, ◌-◌, length, drop}
use Rattle.dm_walk.specs.Steps.{has_two}
use Rattle.dm_walk.specs.Walks.{images_from}
use Rattle.dm_walk.proofs.Images.{IsKnown}
use Rattle.dm_walk.proofs.rows.add_changes.Given as goal

abbrev pub invariant-loop-at : goal.invariant-loop-at
invariant-loop-at l =
    IsKnown l.place l.items.items (images_from (has_two l.place.kind) l.table.columns l.schema (l.from + l.at) 0 (drop l.at l.bytes))
    l.initial.items.items (images_from (has_two l.place.kind) l.table.columns l.schema l.from 0 l.bytes)
    × (l.at ≤ length l.bytes)

abbrev pub decreases-loop-at : goal.decreases-loop-at
decreases-loop-at l = length l.bytes - l.at
