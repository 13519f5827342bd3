-- Numbers as bytes: digits in base 256.
use Rattle.std.specs.Prelude.{ℕ, zero, suc, ◌/◌, ◌%◌, ◌^◌, nat_lt, List, [], ◌∷◌, ◌++◌, if◌then◌else◌}

-- a number in so many bytes, the lowest first
unfoldable pub le_bytes : ℕ → ℕ → List ℕ
le_bytes zero n = []
le_bytes (suc width) n = (n % 256) ∷ le_bytes width (n / 256)

-- a number in so many bytes, the highest first
unfoldable pub be_bytes : ℕ → ℕ → List ℕ
be_bytes zero n = []
be_bytes (suc width) n = be_bytes width (n / 256) ++ (n % 256) ∷ []

-- A length-encoded number: below 251 one byte; else 252, 253 or 254 and 2, 3 or 8 bytes.
abbrev pub lenenc_bytes : ℕ → List ℕ
lenenc_bytes n =
    if nat_lt n 251 then le_bytes 1 n
    else if nat_lt n (2 ^ 16) then 252 ∷ le_bytes 2 n
    else if nat_lt n (2 ^ 24) then 253 ∷ le_bytes 3 n
    else 254 ∷ le_bytes 8 n
