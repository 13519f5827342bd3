-- Numbers that fit a kind have no more digits than are written.
use Rattle.std.proofs.Common.{◌≡◌, ℕ, zero, suc, ◌-◌, ◌*◌, ◌^◌, ◌<◌, ◌≤◌, ℤ, pos, negsuc, neg_ℤ, int_lt, int_le, unsigned_abs, Bool, true, false, ◌&&◌, ◌||◌, refl, arith, eqb, leb, lit<, eqb-true, leb-true, ltb-true, ◌⊎◌, inl, inr}
use Rattle.std.proofs.lemmas.Bool.{and_parts, or_cases}
use Rattle.std.proofs.Math.Nat.{pow-le-pow_right}
use Rattle.dm_schema.specs.Kinds.{is_between, is_integer_size}
use Rattle.dm_schema.specs.Fits.{fits_signed, fits_unsigned, fits_year}

size_most : (size : ℕ) → is_integer_size size ≡ true → 8 * size ≤ 64
size_most size ok = by (eqb size 1) (eqb size 2) (eqb size 3) (eqb size 4) (eqb size 8) refl refl refl refl refl ok where
  by : (a b d e f : Bool) → eqb size 1 ≡ a → eqb size 2 ≡ b → eqb size 3 ≡ d → eqb size 4 ≡ e → eqb size 8 ≡ f → (a || b || d || e || f) ≡ true → 8 * size ≤ 64
  by true b d e f p q r s t h = let same = eqb-true size 1 p in omega (arith, same)
  by false true d e f p q r s t h = let same = eqb-true size 2 q in omega (arith, same)
  by false false true e f p q r s t h = let same = eqb-true size 3 r in omega (arith, same)
  by false false false true f p q r s t h = let same = eqb-true size 4 s in omega (arith, same)
  by false false false false true p q r s t h = let same = eqb-true size 8 t in omega (arith, same)
  by false false false false false p q r s t h = absurd cc

power_small : (bits : ℕ) → bits ≤ 64 → 2 ^ bits < 10 ^ 64
power_small bits few = let most : 2 ^ bits ≤ 2 ^ 64 = pow-le-pow_right (lit< tt) few in omega (arith, most)

low_is : (half m : ℕ) → int_le (neg_ℤ (pos half)) (negsuc m) ≡ true → suc m ≤ half
low_is zero m fits = absurd cc
low_is (suc half) m fits = let h = leb-true m half fits in omega (arith, h)

pub signed_small : (size : ℕ) (n : ℤ) → is_integer_size size ≡ true → fits_signed size n ≡ true → unsigned_abs n < 10 ^ 64
signed_small size (pos m) ok fits =
    let parts = and_parts (int_le (neg_ℤ (pos (2 ^ (8 * size - 1)))) (pos m)) (int_lt (pos m) (pos (2 ^ (8 * size - 1)))) fits in
    let high = ltb-true m (2 ^ (8 * size - 1)) parts.1 in
    let few = size_most size ok in
    let small = power_small (8 * size - 1) (omega (arith, few)) in
    omega (arith, high, small)
signed_small size (negsuc m) ok fits =
    let parts = and_parts (int_le (neg_ℤ (pos (2 ^ (8 * size - 1)))) (negsuc m)) (int_lt (negsuc m) (pos (2 ^ (8 * size - 1)))) fits in
    let low = low_is (2 ^ (8 * size - 1)) m parts.0 in
    let few = size_most size ok in
    let small = power_small (8 * size - 1) (omega (arith, few)) in
    omega (arith, low, small)

pub unsigned_small : (size : ℕ) (n : ℤ) → is_integer_size size ≡ true → fits_unsigned size n ≡ true → unsigned_abs n < 10 ^ 64
unsigned_small size (pos m) ok fits =
    let parts = and_parts (int_le (pos 0) (pos m)) (int_lt (pos m) (pos (2 ^ (8 * size)))) fits in
    let high = ltb-true m (2 ^ (8 * size)) parts.1 in
    let small = power_small (8 * size) (size_most size ok) in
    omega (arith, high, small)
unsigned_small size (negsuc m) ok fits = absurd cc

pub year_small : (n : ℤ) → fits_year n ≡ true → unsigned_abs n < 10 ^ 64
year_small (pos m) fits = by (or_cases (int_le (pos 0) (pos m) && int_le (pos m) (pos 0)) (int_le (pos 1901) (pos m) && int_le (pos m) (pos 2155)) fits) where
  by : ((int_le (pos 0) (pos m) && int_le (pos m) (pos 0)) ≡ true) ⊎ ((int_le (pos 1901) (pos m) && int_le (pos m) (pos 2155)) ≡ true) → m < 10 ^ 64
  by (inl h) = let most = leb-true m 0 (and_parts (int_le (pos 0) (pos m)) (int_le (pos m) (pos 0)) h).1 in omega (arith, most)
  by (inr h) = let most = leb-true m 2155 (and_parts (int_le (pos 1901) (pos m)) (int_le (pos m) (pos 2155)) h).1 in omega (arith, most)
year_small (negsuc m) fits = absurd cc

pub digits_small : (digits precision scale : ℕ) → (is_between 1 38 precision && leb scale precision) ≡ true → digits < 10 ^ precision → digits < 10 ^ 64
digits_small digits precision scale ok below =
    let few = leb-true precision 38 (and_parts (leb 1 precision) (leb precision 38) (and_parts (is_between 1 38 precision) (leb scale precision) ok).0).1 in
    let most : 10 ^ precision ≤ 10 ^ 38 = pow-le-pow_right (lit< tt) few in
    omega (arith, below, most)
