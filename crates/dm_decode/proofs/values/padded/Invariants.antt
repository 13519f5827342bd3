use Rattle.std.proofs.Common.{◌≡◌, ◌-◌, vec_len}
use Rattle.dm_decode.specs.Values.{padded}
use Rattle.dm_decode.proofs.values.padded.Given as goal

abbrev pub invariant-loop-padded : goal.invariant-loop-padded
invariant-loop-padded l = padded l.size l.padded.items ≡ padded l.size l.bytes

abbrev pub decreases-loop-padded : goal.decreases-loop-padded
decreases-loop-padded l = l.size - vec_len l.padded
