use Rattle.std.proofs.Common.{◌≡◌, ◌+◌, length}
use Rattle.dm_route.specs.Reaching.{somewhere}
use Rattle.dm_route.proofs.matching.matches_somewhere.Given as goal

abbrev pub invariant-loop-behind : goal.invariant-loop-behind
invariant-loop-behind l = somewhere l.signs l.name ≡ somewhere l.fn.signs l.fn.name

abbrev pub decreases-loop-behind : goal.decreases-loop-behind
decreases-loop-behind l = length l.signs + length l.name
