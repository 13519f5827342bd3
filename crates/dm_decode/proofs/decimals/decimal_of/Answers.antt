use Rattle.std.proofs.Common.{◌≤◌, ◌+◌, ◌-◌, ◌^◌, arith, lit<}
use Rattle.std.proofs.Math.Nat.{pow-le-pow_right}
use Rattle.dm_decode.proofs.decimals.decimal_of.Goals as goal

pub digits_in-requires-clause-room : goal.digits_in-requires-clause-room
digits_in-requires-clause-room c =
    let few : c.args.precision - c.args.scale + c.args.scale ≤ 38 = omega arith in
    let most : 10 ^ (c.args.precision - c.args.scale + c.args.scale) ≤ 10 ^ 38 = pow-le-pow_right (lit< tt) few in
    omega (arith, most)
