use Rattle.dm_walk.proofs.Layouts.{latest_none, latest_some}
use Rattle.dm_walk.proofs.history.latest.Goals as goal

pub returns-in-Some : goal.returns-in-Some
returns-in-Some c = latest_some c.args.first.now c.in-Some.schema.now c.args.later.now c.in-Some.ensures.value

pub returns-in-None : goal.returns-in-None
returns-in-None c = latest_none c.args.first.now c.args.later.now c.in-None.ensures.value
