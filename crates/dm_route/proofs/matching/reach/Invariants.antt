use Rattle.dm_route.proofs.Runs.{ReachedSoFar}
use Rattle.std.proofs.Common.{length}
use Rattle.dm_route.proofs.matching.reach.Given as goal

abbrev pub invariant-loop-signs : goal.invariant-loop-signs
invariant-loop-signs l = ReachedSoFar l.fn.signs l.fn.name l.signs l.left

abbrev pub decreases-loop-signs : goal.decreases-loop-signs
decreases-loop-signs l = length l.signs
