use Rattle.std.proofs.Common.{◌≡◌, ◌++◌, take}
use Rattle.dm_lockstate.specs.Lock.{pairs_in, pairs_of}
use Rattle.dm_lockstate.proofs.dropping.push_lost.Given as goal

abbrev pub invariant-loop-column : goal.invariant-loop-column
invariant-loop-column l = l.pairs.items ≡ l.fn.pairs.items ++ pairs_in l.joined (pairs_of l.member (take l.column-index l.columns) l.schema)
