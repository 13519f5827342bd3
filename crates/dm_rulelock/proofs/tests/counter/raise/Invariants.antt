use Rattle.std.proofs.Common.{◌≡◌}
use Rattle.dm_rulelock.specs.Passes.{view, IsOfSameLock, HasNotTaken}
use Rattle.dm_rulelock.proofs.tests.counter.raise.Given as goal

abbrev pub invariant-loop : goal.invariant-loop
invariant-loop g l = IsOfSameLock l.initial.pass l.pass × HasNotTaken l.pass × ((view l.pass).callers ≡ (view l.initial.pass).callers)
