use Rattle.std.proofs.Common.{◌≡◌, ◌++◌, take}
use Rattle.dm_lockstate.specs.Lock.{pairs_in}
use Rattle.dm_lockstate.proofs.dropping.push_kept.Given as goal

abbrev pub invariant-loop-pair : goal.invariant-loop-pair
invariant-loop-pair l = l.pairs.items ≡ l.fn.pairs.items ++ pairs_in l.joined (take l.pair-index l.old)
