-- Bytes of a decimal whose first may have a sign.
use Rattle.std.specs.Prelude.{ℕ, ◌-◌, Bool, List, [], ◌∷◌, map}
use Rattle.dm_decode.specs.Decimals.{upright_byte}

-- the upright bytes, the first without a sign bit of this number
abbrev pub upright_behind : ℕ → Bool → List ℕ → List ℕ
upright_behind bit negative [] = []
upright_behind bit negative (b ∷ bs) = (upright_byte negative b - bit) ∷ map (upright_byte negative) bs
