-- Decimals of known bytes.
use Rattle.std.proofs.Common.{◌≡◌, [], ◌∷◌, ◌++◌, replicate, pos, neg_ℤ, Some, refl}
use Rattle.dm_decode.specs.Decimals.{decimal_of}

-- DECIMAL(14,4)
positive : decimal_of 14 4 (0x81 ∷ 0x0d ∷ 0xfb ∷ 0x38 ∷ 0xd2 ∷ 0x04 ∷ 0xd2 ∷ []) ≡ Some (record { digits = pos 12345678901234; scale = 4 })
positive = refl

negative : decimal_of 14 4 (0x7e ∷ 0xf2 ∷ 0x04 ∷ 0xc7 ∷ 0x2d ∷ 0xfb ∷ 0x2d ∷ []) ≡ Some (record { digits = neg_ℤ (pos 12345678901234); scale = 4 })
negative = refl

-- DECIMAL(38,10)
least : decimal_of 38 10 (0x7f ∷ replicate 16 0xff ++ 0xfe ∷ []) ≡ Some (record { digits = neg_ℤ (pos 1); scale = 10 })
least = refl
