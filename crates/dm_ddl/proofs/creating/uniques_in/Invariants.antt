use Rattle.std.proofs.Common.{◌≡◌, length}
use Rattle.std.specs.List.{flat_map}
use Rattle.dm_ddl.specs.Bounds.{items_of}
use Rattle.dm_ddl.specs.Keys.{unique_keys}
use Rattle.dm_ddl.specs.Creating.{named_behind, uniques_in}
use Rattle.dm_ddl.proofs.creating.uniques_in.Given as goal

abbrev pub invariant-loop-item : goal.invariant-loop-item
invariant-loop-item l = named_behind l.keys.items (flat_map (unique_keys l.text) (items_of l.rest)) ≡ uniques_in l.text (items_of l.pieces)

abbrev pub decreases-loop-item : goal.decreases-loop-item
decreases-loop-item l = length l.rest
