use Rattle.std.proofs.Common.{refl, ◌∙◌}
use Rattle.dm_rulelock.proofs.Later.{IsLater-refl, IsLater-trans}
use Rattle.dm_rulelock.proofs.tests.workers.work.Goals as goal

pub loop-init : goal.loop-init
loop-init g c = record { same = refl; free = c.requires.free; later = IsLater-refl _ }

pub loop-preserved : goal.loop-preserved
loop-preserved g c = record {
  same = c.turn.ensures.same ∙ c.loop.invariant.same;
  free = c.turn.ensures.free;
  later = IsLater-trans _ _ _ c.loop.invariant.later c.turn.ensures.later;
}

pub returns-then-not-turn-clause-later : goal.returns-then-not-turn-clause-later
returns-then-not-turn-clause-later g c = IsLater-trans _ _ _ c.loop.invariant.later c.turn.ensures.later
