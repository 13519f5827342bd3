-- DECIMAL in MySQL's binary form: groups of nine digits in four bytes, with smaller groups at both ends.
use Rattle.std.specs.Prelude.{ℕ, ℤ, pos, int_lt, unsigned_abs, ◌+◌, ◌-◌, ◌/◌, ◌%◌, ◌^◌, Bool, true, false, List, [], ◌∷◌, ◌++◌, map, slice_index_or}
use Rattle.dm_decode.specs.Decimals.{group_width, groups}
use Rattle.dm_encode.specs.Numbers.{be_bytes}

-- how many digits these groups have
abbrev pub digits_of : List ℕ → ℕ
digits_of [] = 0
digits_of (g ∷ gs) = g + digits_of gs

-- the digits of a number in these groups, the first digits first
abbrev pub group_bytes : List ℕ → ℕ → List ℕ
group_bytes [] n = []
group_bytes (g ∷ gs) n = be_bytes (group_width g) (n / 10 ^ digits_of gs) ++ group_bytes gs (n % 10 ^ digits_of gs)

-- the highest bit, which no group sets, is inverted
abbrev pub with_sign_bit : List ℕ → List ℕ
with_sign_bit [] = []
with_sign_bit (b ∷ bs) = (b + 128) ∷ bs

-- of a negative number all bits are inverted
abbrev pub inverted : Bool → ℕ → ℕ
inverted true b = 255 - b
inverted false b = b

-- the decimal of these digits
abbrev pub spelled_decimal : ℕ → ℕ → ℤ → List ℕ
spelled_decimal precision scale digits = map (inverted (int_lt digits (pos 0))) (with_sign_bit (group_bytes (groups (precision - scale) scale) (unsigned_abs digits)))

-- the highest bit of so many bytes, up to four
abbrev pub sign_bit : ℕ → ℕ
sign_bit width = slice_index_or (0 ∷ 0x80 ∷ 0x8000 ∷ 0x80_0000 ∷ 0x8000_0000 ∷ []) width 0
