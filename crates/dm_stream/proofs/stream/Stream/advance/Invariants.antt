use Rattle.std.proofs.Common.{◌≡◌, length}
use Rattle.dm_stream.specs.Sayings.{Heads}
use Rattle.dm_stream.specs.Rests.{left}
use Rattle.dm_stream.proofs.stream.Stream.advance.Given as goal

abbrev pub invariant-loop-self : goal.invariant-loop-self
invariant-loop-self l = (heads : Heads) → left heads l.self ≡ left heads l.fn.self

abbrev pub decreases-loop-self : goal.decreases-loop-self
decreases-loop-self l = length l.self.files
