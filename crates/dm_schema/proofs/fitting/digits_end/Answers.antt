use Rattle.std.proofs.Common.{◌≤◌, ◌^◌, arith, lit<}
use Rattle.std.proofs.Math.Nat.{pow-le-pow_right}
use Rattle.dm_schema.proofs.fitting.digits_end.Goals as goal

pub pow-requires : goal.pow-requires
pow-requires c =
    let le : c.from.result ≤ 38 = omega (arith, c.from.ensures) in
    let most : 10 ^ c.from.result ≤ 10 ^ 38 = pow-le-pow_right (lit< tt) le in
    omega (arith, most)
