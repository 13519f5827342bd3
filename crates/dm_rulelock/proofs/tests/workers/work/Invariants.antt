use Rattle.dm_rulelock.specs.Passes.{view, IsOfSameLock, IsLater, HasNotTaken}
use Rattle.dm_rulelock.proofs.tests.workers.work.Given as goal

abbrev pub invariant-loop : goal.invariant-loop
invariant-loop g l = record {
  same : IsOfSameLock l.initial.pass l.pass;
  free : HasNotTaken l.pass;
  later : IsLater (view l.initial.pass) (view l.pass);
}
