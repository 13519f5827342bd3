-- The numbers of `byteorder` are those of `Reading`.
use Rattle.std.proofs.Common.{◌≡◌, ℕ, ◌+◌, ◌*◌, ◌^◌, List, [], ◌∷◌, length, fold, Some, refl, ◌∙◌, arith}
use Rattle.std.proofs.Math.Nat.{pow-succ'}
use Rattle.byteorder.specs.Endian.{little_number, big_number}
use Rattle.byteorder.specs.Numbers.{little_from-cons, big_from-cons}
use Rattle.dm_base.specs.Reading.{Reading, piece, le, be, le_value, be_value}

little_is : (bytes : List ℕ) → little_number (length bytes) bytes ≡ le_value bytes
little_is [] = refl
little_is (b ∷ bs) = rw (little_from-cons 0 (length bs) b bs, little_is bs) refl

one_place : (n b power rest : ℕ) → (256 * n + b) * power + rest ≡ n * (256 * power) + (b * power + rest)
one_place n b power rest = grind arith

big_behind : (n : ℕ) (bytes : List ℕ) → fold (λ n b. 256 * n + b) n bytes ≡ n * 256 ^ length bytes + big_number (length bytes) bytes
big_behind n [] = omega arith
big_behind n (b ∷ bs) =
    big_behind (256 * n + b) bs
    ∙ rw (big_from-cons 0 (length bs) b bs, pow-succ' 256 (length bs)) (one_place n b (256 ^ length bs) (big_number (length bs) bs))

big_is : (bytes : List ℕ) → big_number (length bytes) bytes ≡ be_value bytes
big_is bytes = let e = big_behind 0 bytes in omega (arith, e)

pub le_is : (width n number : ℕ) (bytes : List ℕ) (before after : Reading) → n ≡ width → piece n before ≡ Some (bytes, after) → number ≡ little_number (length bytes) bytes → le width before ≡ Some (number, after)
le_is width n number bytes before after same read e = rw (← same, read, e, little_is bytes) refl

pub be_is : (width n number : ℕ) (bytes : List ℕ) (before after : Reading) → n ≡ width → piece n before ≡ Some (bytes, after) → number ≡ big_number (length bytes) bytes → be width before ≡ Some (number, after)
be_is width n number bytes before after same read e = rw (← same, read, e, big_is bytes) refl
