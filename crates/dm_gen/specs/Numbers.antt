-- The numbers that choose rows and values: xorshift in 64 bits, by 13 to the left, 7 to the right and 17 to the left.
use Rattle.std.specs.Prelude.{ℕ, ◌+◌, ◌*◌, ◌/◌, ◌%◌, ◌^◌, bit_xor}

-- x XOR itself shifted to the left; what is shifted past 64 bits is lost
abbrev pub xor_left : ℕ → ℕ → ℕ
xor_left x by = bit_xor x (x * 2 ^ by % 2 ^ 64)

-- x XOR itself shifted to the right
abbrev pub xor_right : ℕ → ℕ → ℕ
xor_right x by = bit_xor x (x / 2 ^ by)

unfoldable pub next_number : ℕ → ℕ
next_number x = xor_left (xor_right (xor_left x 13) 7) 17

-- x before a source's first step
abbrev pub first_number : ℕ → ℕ → ℕ
first_number number source = 4 * number + source + 1
