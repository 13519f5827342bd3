-- Numbers that ASCII digits write in base ten.
use Rattle.std.proofs.Common.{◌≡◌, ℕ, zero, suc, ◌+◌, ◌-◌, ◌*◌, ◌^◌, ◌<◌, ◌≤◌, true, List, [], ◌∷◌, ◌++◌, length, replicate, sym, ap, ◌∙◌, arith, fold}
use Rattle.std.proofs.lemmas.List.Sums.{fold-append}
use Rattle.std.proofs.Math.Nat.{pow-suc, one-le-pow, mul-le-mul_left}
use Rattle.std.proofs.lemmas.Nat.{pow-add}
use Rattle.std.specs.List.{list_all}
use Rattle.std.proofs.lemmas.Bool.Decides.{nat_tests}
use Rattle.dm_schema.specs.Kinds.{is_between}
use Rattle.dm_time.proofs.Shapes.{both}
use Rattle.dm_time.specs.Texts.{with_digit, number_of}

-- zeros behind a number
zeros_behind : (count n : ℕ) → fold with_digit n (replicate count 48) ≡ n * 10 ^ count
zeros_behind zero n = omega arith
zeros_behind (suc count) n = zeros_behind count (with_digit n 48) ∙ (rw (pow-suc 10 count) (omega arith))

pub filled_up : (digits : List ℕ) (count : ℕ) → number_of (digits ++ replicate count 48) ≡ number_of digits * 10 ^ count
filled_up digits count = fold-append with_digit 0 digits (replicate count 48) ∙ zeros_behind count (number_of digits)

pub below_six : (n len : ℕ) → len ≤ 6 → n < 10 ^ len → n * 10 ^ (6 - len) < 10 ^ 6
below_six n len le below =
    let six : len + (6 - len) ≡ 6 = omega arith in
    let whole : 10 ^ len * 10 ^ (6 - len) ≡ 10 ^ 6 = sym (pow-add 10 len (6 - len)) ∙ ap (λ k. 10 ^ k) six in
    let some : 1 ≤ 10 ^ (6 - len) = one-le-pow (6 - len) 10 (omega arith) in
    grind arith

tens_below : (unit number n d : ℕ) → d ≤ 57 → number < (with_digit n d + 1) * unit → number < (n + 1) * (unit * 10)
tens_below unit number n d le h =
    let tens : with_digit n d + 1 ≤ (n + 1) * 10 = omega arith in
    omega (arith, mul-le-mul_left unit tens)

pub digits_below : (n : ℕ) (digits : List ℕ) → list_all (is_between 48 57) digits ≡ true → fold with_digit n digits < (n + 1) * 10 ^ length digits
digits_below n [] all = omega arith
digits_below n (d ∷ digits) all =
    let parts = both (is_between 48 57 d) (list_all (is_between 48 57) digits) all in
    let digit : d ≤ 57 = grind (arith, nat_tests, parts.0) in
    let rest : fold with_digit (with_digit n d) digits < (with_digit n d + 1) * 10 ^ length digits = digits_below (with_digit n d) digits parts.1 in
    rw (pow-suc 10 (length digits)) (tens_below (10 ^ length digits) (fold with_digit (with_digit n d) digits) n d digit rest)
