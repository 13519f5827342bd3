use Rattle.std.proofs.Common.{◌≡◌, ◌++◌, length}
use Rattle.dm_ddl.specs.Bounds.{items_of}
use Rattle.dm_ddl.specs.Creating.{primaries_in}
use Rattle.dm_ddl.proofs.creating.primaries_in.Given as goal

abbrev pub invariant-loop-item : goal.invariant-loop-item
invariant-loop-item l = l.keys.items ++ primaries_in l.text (items_of l.rest) ≡ primaries_in l.text (items_of l.pieces)

abbrev pub decreases-loop-item : goal.decreases-loop-item
decreases-loop-item l = length l.rest
