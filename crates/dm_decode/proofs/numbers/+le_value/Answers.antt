use Rattle.std.proofs.Common.{length-take, length-drop, arith}
use Rattle.dm_decode.proofs.Bounds.{byte_more}
use Rattle.dm_decode.proofs.numbers.+le_value.Goals as goal

pub overflow_mul-result : goal.overflow_mul-result
overflow_mul-result t c =
    let more = byte_more c.le_value.result _ c.le_value.ensures.below (simp (length-take, length-drop) (omega (arith, c.requires))) in
    omega (arith, more)

pub overflow_add-result : goal.overflow_add-result
overflow_add-result t c =
    let more = byte_more c.le_value.result _ c.le_value.ensures.below (simp (length-take, length-drop) (omega (arith, c.requires))) in
    omega (arith, more)
