use Rattle.std.proofs.Common.{arith}
use Rattle.dm_decode.proofs.Bounds.{byte_more}
use Rattle.dm_decode.proofs.numbers.be_value.Goals as goal

pub overflow_mul-number : goal.overflow_mul-number
overflow_mul-number c = let more = byte_more c.loop-byte.number c.loop-byte.byte-index c.loop-byte.invariant.below (omega (arith, c.requires)) in omega (arith, more)

pub overflow_add-number : goal.overflow_add-number
overflow_add-number c = let more = byte_more c.loop-byte.number c.loop-byte.byte-index c.loop-byte.invariant.below (omega (arith, c.requires)) in omega (arith, more)
