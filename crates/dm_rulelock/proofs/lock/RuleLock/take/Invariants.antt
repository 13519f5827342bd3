use Rattle.std.proofs.Common.{◌≡◌}
use Rattle.dm_rulelock.specs.Passes.{IsOfSameLock}
use Rattle.dm_rulelock.proofs.lock.RuleLock.take.Given as goal

-- until the word is found free, the seat is as it was
abbrev pub invariant-loop : goal.invariant-loop
invariant-loop g l = IsOfSameLock l.initial.pass l.pass × (l.pass.seat.me ≡ l.initial.pass.seat.me)
