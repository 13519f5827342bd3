use Rattle.std.proofs.Common.{subst, arith}
use Rattle.dm_rulelock.proofs.Later.{IsLater-join}
use Rattle.dm_rulelock.specs.Passes.{view, IsLater}
use Rattle.dm_rulelock.proofs.tests.workers.+fn-work_in_many-join+arg2+work_in_many.Goals as goal

pub returns-clause-later : goal.returns-clause-later
returns-clause-later g t c =
    let others = subst (λ v. IsLater v (view c.join-others.result.0.pass)) c.split.ensures.pass c.join-others.ensures.first.2 in
    let one = subst (λ v. IsLater v (view c.join-others.result.1.pass)) c.split.ensures.split_off c.join-others.ensures.second.2 in
    IsLater-join _ _ _ _ (omega (arith, c.requires.some, c.requires.most, c.if-workers-eq1.false)) others one c.join.ensures.pass
