-- Bitmaps, and the bits that are read of them.
use Rattle.std.proofs.Common.{◌≡◌, ℕ, zero, suc, ◌+◌, ◌*◌, ◌/◌, ◌%◌, ◌^◌, ◌<◌, ◌≤◌, Bool, true, false, List, [], ◌∷◌, ◌++◌, ◌==◌, length, take, drop, map, get_or, min, refl, sym, ◌∙◌, arith, lit<, length-take, length-drop, append_assoc, append-nil}
use Rattle.std.proofs.Math.Nat.{pow-succ', pow-le-pow_right}
use Rattle.std.proofs.lemmas.List.{take_min, drop_min, nil_from_length, length-map}
use Rattle.std.proofs.lemmas.Nat.{shr-shr}
use Rattle.std.specs.List.{list_all, range_with_len}
use Rattle.std.proofs.lemmas.Bool.{eqb-true}
use Rattle.dm_binlog.specs.Bodies.{all_set, bitmap_length, is_set}
use Rattle.dm_encode.specs.Numbers.{le_bytes}
use Rattle.dm_encode.specs.Bitmaps.{bit, bitmap, bits_value}
use Rattle.dm_encode.proofs.Digits.{length-le}

pub bits_below : (bits : List Bool) → bits_value bits < 2 ^ length bits
bits_below [] = lit< tt
bits_below (true ∷ bs) = let rest = bits_below bs in let power = pow-succ' 2 (length bs) in omega (arith, rest, power)
bits_below (false ∷ bs) = let rest = bits_below bs in let power = pow-succ' 2 (length bs) in omega (arith, rest, power)

doubled : (b v t p d : ℕ) → v ≡ t + p * d → b + 2 * v ≡ b + 2 * t + 2 * p * d
doubled b v t p d e = grind (arith, e)

bits_split : (k : ℕ) (bits : List Bool) → bits_value bits ≡ bits_value (take k bits) + 2 ^ k * bits_value (drop k bits)
bits_split zero bits = omega arith
bits_split (suc k) [] = omega arith
bits_split (suc k) (b ∷ bs) = rw (pow-succ' 2 k) (doubled (bit b) (bits_value bs) (bits_value (take k bs)) (2 ^ k) (bits_value (drop k bs)) (bits_split k bs))

first_below : (bits : List Bool) → bits_value (take 8 bits) < 256
first_below bits =
    let below = bits_below (take 8 bits) in
    let few : length (take 8 bits) ≤ 8 = simp length-take (omega arith) in
    let most : 2 ^ length (take 8 bits) ≤ 2 ^ 8 = pow-le-pow_right (lit< tt) few in
    omega (arith, below, most)

-- the first byte, and those behind it
pub bitmap_step : (bits : List Bool) → 0 < length bits → bitmap bits ≡ bits_value (take 8 bits) ∷ bitmap (drop 8 bits)
unfolding bitmap le_bytes
bitmap_step bits some =
    let behind : bitmap_length (length bits) ≡ suc (bitmap_length (length (drop 8 bits))) = simp length-drop (omega arith) in
    let split = bits_split 8 bits in
    let below = first_below bits in
    let low : bits_value bits % 256 ≡ bits_value (take 8 bits) = omega (arith, split, below) in
    let high : bits_value bits / 256 ≡ bits_value (drop 8 bits) = omega (arith, split, below) in
    rw (behind, low, high) refl

pub bitmap_none : bitmap [] ≡ []
unfolding bitmap le_bytes
bitmap_none = refl

pub length-bitmap : (bits : List Bool) → length (bitmap bits) ≡ bitmap_length (length bits)
unfolding bitmap
length-bitmap bits = length-le (bitmap_length (length bits)) (bits_value bits)

none_left : (rest : List Bool) → (length rest == 0) ≡ true → rest ≡ []
none_left rest e = nil_from_length rest (eqb-true (length rest) 0 e)

some_left : (n : ℕ) → (n == 0) ≡ false → 0 < n
some_left zero e = absurd cc
some_left (suc n) e = omega arith

-- what a loop over the bits knows: the bytes so far, with the bitmap of what is left, are all
pub bitmap_more : (rest own behind : List Bool) (count byte : ℕ) (before more all : List ℕ) (empty : Bool) → empty ≡ (length rest == 0) → empty ≡ false → count ≡ min (length rest) 8
    → own ≡ take count rest → behind ≡ drop count rest → byte ≡ bits_value own → more ≡ before ++ byte ∷ [] → before ++ bitmap rest ≡ all → more ++ bitmap behind ≡ all
bitmap_more rest own behind count byte before more all empty told some count_is own_is behind_is byte_is more_is known =
    let there : 0 < length rest = some_left (length rest) (sym told ∙ some) in
    let turned : min (length rest) 8 ≡ min 8 (length rest) = omega arith in
    let first : own ≡ take 8 rest = own_is ∙ rw (count_is, turned, take_min) refl in
    let others : behind ≡ drop 8 rest = behind_is ∙ rw (count_is, turned, drop_min) refl in
    rw (more_is, byte_is, first, others, append_assoc) (rw (bitmap_step rest there) at known)

pub bitmap_last : (rest : List Bool) (bytes all : List ℕ) (empty : Bool) → empty ≡ (length rest == 0) → empty ≡ true → bytes ++ bitmap rest ≡ all → bytes ≡ all
bitmap_last rest bytes all empty told none known = rw (none_left rest (sym told ∙ none), bitmap_none, append-nil) at known

-- The bits that are read of a bitmap are those that were written.

bit_of : (b : Bool) (v i : ℕ) → (bit b + 2 * v) / 2 ^ suc i ≡ v / 2 ^ i
bit_of b v i =
    let half : (bit b + 2 * v) / 2 ^ 1 ≡ v = half_of b v in
    let one : suc i ≡ 1 + i = omega arith in
    rw (one, ← shr-shr (bit b + 2 * v) 1 i, half) refl where
      half_of : (b : Bool) (v : ℕ) → (bit b + 2 * v) / 2 ^ 1 ≡ v
      half_of true v = omega arith
      half_of false v = omega arith

first_bit : (b : Bool) (v : ℕ) → (bit b + 2 * v) / 2 ^ 0 % 2 ≡ bit b
first_bit true v = omega arith
first_bit false v = omega arith

value_bit : (bits : List Bool) (i : ℕ) → i < length bits → bits_value bits / 2 ^ i % 2 ≡ bit (get_or bits i false)
value_bit [] i within = absurd (omega arith)
value_bit (b ∷ bs) zero within = first_bit b (bits_value bs)
value_bit (b ∷ bs) (suc i) within = rw (bit_of b (bits_value bs) i) (value_bit bs i (omega arith))

byte_at : (width n k : ℕ) → k < width → get_or (le_bytes width n) k 0 ≡ n / 2 ^ (8 * k) % 256
unfolding le_bytes
byte_at zero n k within = absurd (omega arith)
byte_at (suc width) n zero within = omega arith
byte_at (suc width) n (suc k) within =
    let eight : 8 * suc k ≡ 8 + 8 * k = omega arith in
    byte_at width (n / 256) k (omega arith) ∙ rw (eight, ← shr-shr n 8 (8 * k)) refl

low_bit : (m j : ℕ) → j < 8 → m % 256 / 2 ^ j % 2 ≡ m / 2 ^ j % 2
low_bit m zero few = omega arith
low_bit m (suc zero) few = omega arith
low_bit m (suc (suc zero)) few = omega arith
low_bit m (suc (suc (suc zero))) few = omega arith
low_bit m (suc (suc (suc (suc zero)))) few = omega arith
low_bit m (suc (suc (suc (suc (suc zero))))) few = omega arith
low_bit m (suc (suc (suc (suc (suc (suc zero)))))) few = omega arith
low_bit m (suc (suc (suc (suc (suc (suc (suc zero))))))) few = omega arith
low_bit m (suc (suc (suc (suc (suc (suc (suc (suc n)))))))) few = absurd (omega arith)

is_one : (b : Bool) → (bit b == 1) ≡ b
is_one true = refl
is_one false = refl

pub bit_is : (bits : List Bool) (i : ℕ) → i < length bits → is_set (bitmap bits) i ≡ get_or bits i false
unfolding bitmap
bit_is bits i within =
    let byte = byte_at (bitmap_length (length bits)) (bits_value bits) (i / 8) (omega arith) in
    let whole : 8 * (i / 8) + i % 8 ≡ i = omega arith in
    let low = low_bit (bits_value bits / 2 ^ (8 * (i / 8))) (i % 8) (omega arith) in
    rw (byte, low, shr-shr (bits_value bits) (8 * (i / 8)) (i % 8), whole, value_bit bits i within) (is_one (get_or bits i false))

-- A bitmap of nothing but ones has them all set.

ones_at : {A : Type 0} (xs : List A) (i : ℕ) → i < length xs → get_or (map (λ x. true) xs) i false ≡ true
ones_at [] i within = absurd (omega arith)
ones_at (x ∷ xs) zero within = refl
ones_at (x ∷ xs) (suc i) within = ones_at xs i (omega arith)

range_all : (test : ℕ → Bool) (from count : ℕ) → ((i : ℕ) → i < from + count → test i ≡ true) → list_all test (range_with_len from count) ≡ true
range_all test from zero each = refl
range_all test from (suc count) each = rw (each from (omega arith), range_all test (from + 1) count (λ i within. each i (omega arith))) refl

pub ones_set : {A : Type 0} (xs : List A) → all_set (length xs) (bitmap (map (λ x. true) xs)) ≡ true
ones_set {A} xs =
    range_all (is_set (bitmap (map (λ x. true) xs))) 0 (length xs)
    (λ i within. bit_is (map (λ x. true) xs) i (rw (length-map xs (λ x. true)) (omega arith)) ∙ ones_at xs i (omega arith))
