use Rattle.std.proofs.Common.{arith}
use Rattle.std.proofs.Math.Nat.{one-le-pow}
use Rattle.dm_text.proofs.decimals.whole_part.Goals as goal

pub nonzero_div-result : goal.nonzero_div-result
nonzero_div-result c = let h = c.in-Some.ensures in let p = one-le-pow c.args.scale 10 (omega arith) in grind (arith, h, p)
