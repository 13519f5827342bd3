use Rattle.std.proofs.Common.{arith}
use Rattle.dm_encode.proofs.GroupsBack.{magnitude_is, sign_is}
use Rattle.dm_encode.proofs.Shapes.{magnitude_fits, negative_abs}
use Rattle.dm_encode.proofs.integers.twos_complement.Goals as goal

pub overflow_sub-result : goal.overflow_sub-result
overflow_sub-result c = let fits = magnitude_fits c.args.size c.unsigned_end.result c.magnitude.result c.args.number c.requires.size c.requires.fits c.unsigned_end.ensures.value (magnitude_is c.magnitude.result c.args.number c.ranges.number c.magnitude.ensures) in omega (arith, fits)

pub overflow_cast-result : goal.overflow_cast-result
overflow_cast-result c =
    let some = negative_abs c.is_negative.result c.magnitude.result c.args.number (sign_is c.is_negative.result c.args.number c.ranges.number c.is_negative.ensures) c.if-is_negative.true (magnitude_is c.magnitude.result c.args.number c.ranges.number c.magnitude.ensures) in
    omega (arith, some, c.unsigned_end.ensures.most)
