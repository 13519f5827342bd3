use Rattle.std.proofs.Common.{◌≡◌, take, map}
use Rattle.dm_top.specs.Places.{value_from}
use Rattle.dm_top.proofs.rows.widened.Given as goal

abbrev pub invariant-loop-origin : goal.invariant-loop-origin
invariant-loop-origin l = l.values.items ≡ map (value_from l.row) (take l.origin-index l.origins)
