-- Numbers of so many bytes.
use Rattle.std.proofs.Common.{ℕ, zero, suc, ◌+◌, ◌-◌, ◌*◌, ◌^◌, ◌<◌, ◌≤◌, arith, lit<}
use Rattle.std.proofs.Math.Nat.{pow-le-pow_right}

-- there is room for one byte more
pub byte_more : (number count : ℕ) → number < 256 ^ count → count < 8 → 256 * number + 255 < 2 ^ 64
byte_more number count below few =
    let less : count ≤ 7 = omega arith in
    let most : 256 ^ count ≤ 256 ^ 7 = pow-le-pow_right (lit< tt) less in
    omega (arith, most)

-- a fraction's microseconds
pub micros_small : (number width : ℕ) → width ≤ 3 → number < 256 ^ width → number * 100 ^ (3 - width) < 2 ^ 32
micros_small number zero few below = omega arith
micros_small number (suc zero) few below = omega arith
micros_small number (suc (suc zero)) few below = omega arith
micros_small number (suc (suc (suc zero))) few below = omega arith
micros_small number (suc (suc (suc (suc n)))) few below = absurd (omega arith)

pub number_small : (number width : ℕ) → width ≤ 3 → number < 256 ^ width → number < 2 ^ 32
number_small number width few below =
    let most : 256 ^ width ≤ 256 ^ 3 = pow-le-pow_right (lit< tt) few in
    omega (arith, most)
