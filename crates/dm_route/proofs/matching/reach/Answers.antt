use Rattle.std.proofs.Common.{arith}
use Rattle.std.proofs.lemmas.List.{take_rest}
use Rattle.dm_route.proofs.Runs.{at_run, at_sign}
use Rattle.dm_route.proofs.matching.reach.Goals as goal

pub returns-in-Run : goal.returns-in-Run
returns-in-Run c = at_run _ _ c.loop-signs.signs.now _ _ _ c.in-len1-up.len_at_least c.in-Run.is (take_rest _ 1) c.loop-signs.invariant

pub loop-signs-preserved : goal.loop-signs-preserved
loop-signs-preserved c =
    at_sign _ _ c.loop-signs.signs.now _ c.loop-signs.left.now _ _ c.width-taken.result c.in-len1-up.len_at_least c.in_default-sign.not-Run (take_rest _ 1)
    c.width-taken.ensures.value (omega (arith, c.if-taken-eq0.false)) c.width-taken.ensures.within (take_rest c.loop-signs.left.now c.width-taken.result) c.loop-signs.invariant
