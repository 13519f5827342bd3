use Rattle.dm_rulelock.proofs.Later.{IsLater-trans, IsLater-turn}
use Rattle.dm_rulelock.proofs.tests.workers.turn.Goals as goal

pub returns-in_default-clause-later : goal.returns-in_default-clause-later
returns-in_default-clause-later g c = IsLater-turn _ _ _ _ _ c.take-job.ensures.positions c.draw-drawn.ensures.positions c.take-job.ensures.pass c.give.ensures.pass

pub returns-clause-later : goal.returns-clause-later
returns-clause-later g c =
    let first = IsLater-turn _ _ _ _ _ c.take-job.ensures.positions c.draw-drawn.ensures.positions c.take-job.ensures.pass c.give.ensures.pass in
    let second = IsLater-turn _ _ _ _ _ c.take-job-2.ensures.positions c.put.ensures.positions c.take-job-2.ensures.pass c.give-2.ensures.pass in
    IsLater-trans _ _ _ first second
