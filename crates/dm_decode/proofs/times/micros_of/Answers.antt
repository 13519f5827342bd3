use Rattle.std.proofs.Common.{◌≡◌, ◌<◌, ◌≤◌, ◌^◌, ◌-◌, ◌*◌, length, arith}
use Rattle.dm_decode.proofs.Bounds.{micros_small, number_small}
use Rattle.dm_decode.proofs.times.micros_of.Goals as goal

pub overflow_cast-result : goal.overflow_cast-result
overflow_cast-result c =
    let few : length c.args.bytes.now ≤ 3 = omega (arith, c.requires.width, c.requires.digits) in
    let small = number_small c.be_value.result (length c.args.bytes.now) few c.be_value.ensures.below in
    omega (arith, small)

pub overflow_mul-result : goal.overflow_mul-result
overflow_mul-result c =
    let few : length c.args.bytes.now ≤ 3 = omega (arith, c.requires.width, c.requires.digits) in
    let small = micros_small c.be_value.result (length c.args.bytes.now) few c.be_value.ensures.below in
    let unit : c.unit_of.result ≡ 100 ^ (3 - length c.args.bytes.now) = rw c.requires.width c.unit_of.ensures in
    let less : c.be_value.result * c.unit_of.result < 2 ^ 32 = rw unit small in
    omega (arith, less)
