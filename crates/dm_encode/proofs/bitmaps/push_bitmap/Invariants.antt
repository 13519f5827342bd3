use Rattle.std.proofs.Common.{◌≡◌, ◌++◌, length}
use Rattle.dm_encode.specs.Bitmaps.{bitmap}
use Rattle.dm_encode.proofs.bitmaps.push_bitmap.Given as goal

abbrev pub invariant-loop-rest : goal.invariant-loop-rest
invariant-loop-rest l = l.bytes.items ++ bitmap l.rest ≡ l.initial.bytes.items ++ bitmap l.bits

abbrev pub decreases-loop-rest : goal.decreases-loop-rest
decreases-loop-rest l = length l.rest
