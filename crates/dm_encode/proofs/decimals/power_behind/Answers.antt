use Rattle.std.proofs.Common.{◌≤◌, ◌^◌, arith, lit<}
use Rattle.std.proofs.Math.Nat.{one-le-pow, pow-le-pow_right}
use Rattle.dm_encode.proofs.decimals.power_behind.Goals as goal

pub pow-requires : goal.pow-requires
pow-requires c =
    let le : c.from.result ≤ 38 = omega (arith, c.from.ensures, c.requires) in
    let most : 10 ^ c.from.result ≤ 10 ^ 38 = pow-le-pow_right (lit< tt) le in
    omega (arith, most)

pub returns-clause-some : goal.returns-clause-some
returns-clause-some c = rw c.pow.ensures (one-le-pow c.from.result 10 (lit< tt))
