use Rattle.dm_route.proofs.Runs.{found}
use Rattle.dm_route.proofs.matching.matches_somewhere.Goals as goal

pub returns-in-Whole : goal.returns-in-Whole
returns-in-Whole c = found c.loop-behind.signs.now c.loop-behind.name.now _ c.in-Whole.ensures c.loop-behind.invariant
