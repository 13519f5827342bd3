-- Bitmaps: a bit for each column, from the lowest of the first byte on. Bits behind the last are 0.
use Rattle.std.specs.Prelude.{ℕ, ◌+◌, ◌*◌, Bool, true, false, List, [], ◌∷◌, length}
use Rattle.dm_binlog.specs.Bodies.{bitmap_length}
use Rattle.dm_encode.specs.Numbers.{le_bytes}

-- a bit as a number
abbrev pub bit : Bool → ℕ
bit true = 1
bit false = 0

-- the number whose binary digits these are, the lowest first
abbrev pub bits_value : List Bool → ℕ
bits_value [] = 0
bits_value (b ∷ bs) = bit b + 2 * bits_value bs

-- that number in as many bytes as there must be for the bits
unfoldable pub bitmap : List Bool → List ℕ
bitmap bits = le_bytes (bitmap_length (length bits)) (bits_value bits)
