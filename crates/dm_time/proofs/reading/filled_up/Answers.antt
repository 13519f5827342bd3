use Rattle.std.proofs.Common.{◌-◌, length, arith}
use Rattle.dm_time.proofs.Decimals.{filled_up, below_six}
use Rattle.dm_time.proofs.reading.filled_up.Goals as goal

pub overflow_mul-result : goal.overflow_mul-result
overflow_mul-result c =
    let most = below_six c.number_of.result (length c.args.digits.now) c.requires.few c.number_of.ensures.below in
    rw (c.pow.ensures) (omega arith)

pub returns : goal.returns
returns c =
    let digits = c.args.digits.now in
    rw (c.pow.ensures, c.number_of.ensures.value, filled_up digits (6 - length digits))
