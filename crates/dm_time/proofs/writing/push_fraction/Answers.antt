use Rattle.std.proofs.Common.{arith}
use Rattle.std.proofs.Math.Nat.{one-le-pow}
use Rattle.dm_time.proofs.writing.push_fraction.Goals as goal

pub nonzero_div-micros : goal.nonzero_div-micros
nonzero_div-micros c = omega (arith, c.pow.ensures, one-le-pow c.saturating_sub-left_out.result 10 (omega arith))
