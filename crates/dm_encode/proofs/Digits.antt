-- Numbers as bytes, and the numbers that the bytes are.
use Rattle.std.proofs.Common.{◌≡◌, ℕ, zero, suc, ◌+◌, ◌-◌, ◌*◌, ◌/◌, ◌%◌, ◌^◌, ◌<◌, List, [], ◌∷◌, ◌++◌, length, fold, refl, ap, ◌∙◌, arith, append_assoc, length-append}
use Rattle.std.proofs.Math.Nat.{pow-succ'}
use Rattle.dm_base.specs.Reading.{le_value, be_value}
use Rattle.dm_encode.specs.Numbers.{le_bytes, be_bytes}

pub le_step : (w n : ℕ) → 0 < w → le_bytes w n ≡ (n % 256) ∷ le_bytes (w - 1) (n / 256)
unfolding le_bytes
le_step zero n some = absurd (omega arith)
le_step (suc w) n some = let less : w ≡ suc w - 1 = omega arith in ap (λ v. (n % 256) ∷ le_bytes v (n / 256)) less

pub le_none : (n : ℕ) → le_bytes 0 n ≡ []
unfolding le_bytes
le_none n = refl

pub be_step : (w n : ℕ) → 0 < w → be_bytes w n ≡ be_bytes (w - 1) (n / 256) ++ (n % 256) ∷ []
unfolding be_bytes
be_step zero n some = absurd (omega arith)
be_step (suc w) n some = let less : w ≡ suc w - 1 = omega arith in ap (λ v. be_bytes v (n / 256) ++ (n % 256) ∷ []) less

pub be_none : (n : ℕ) → be_bytes 0 n ≡ []
unfolding be_bytes
be_none n = refl

pub length-le : (w n : ℕ) → length (le_bytes w n) ≡ w
unfolding le_bytes
length-le zero n = refl
length-le (suc w) n = ap suc (length-le w (n / 256))

pub length-be : (w n : ℕ) → length (be_bytes w n) ≡ w
unfolding be_bytes
length-be zero n = refl
length-be (suc w) n = let rest = length-be w (n / 256) in simp length-append (omega (arith, rest))

less_behind : (w n : ℕ) → n < 256 ^ suc w → n / 256 < 256 ^ w
less_behind w n small = let power = pow-succ' 256 w in omega (arith, power)

-- the bytes of a number that has room in them are that number
pub le_back : (w n : ℕ) → n < 256 ^ w → le_value (le_bytes w n) ≡ n
unfolding le_bytes
le_back zero n small = omega arith
le_back (suc w) n small = let rest = le_back w (n / 256) (less_behind w n small) in omega (arith, rest)

fold_push : (m b : ℕ) (bytes : List ℕ) → fold (λ n b. 256 * n + b) m (bytes ++ b ∷ []) ≡ 256 * fold (λ n b. 256 * n + b) m bytes + b
fold_push m b [] = refl
fold_push m b (x ∷ xs) = fold_push (256 * m + x) b xs

pub be_back : (w n : ℕ) → n < 256 ^ w → be_value (be_bytes w n) ≡ n
unfolding be_bytes
be_back zero n small = omega arith
be_back (suc w) n small =
    let rest = be_back w (n / 256) (less_behind w n small) in
    let push = fold_push 0 (n % 256) (be_bytes w (n / 256)) in
    omega (arith, rest, push)

-- a first digit and the others, as they are added
pub le_first : (w n : ℕ) (before one all : List ℕ) → 0 < w → one ≡ before ++ (n % 256) ∷ [] → all ≡ one ++ le_bytes (w - 1) (n / 256) → all ≡ before ++ le_bytes w n
le_first w n before one all some first rest = rest ∙ rw (first, le_step w n some, append_assoc) refl

pub be_last : (w n : ℕ) (before others all : List ℕ) → 0 < w → others ≡ before ++ be_bytes (w - 1) (n / 256) → all ≡ others ++ (n % 256) ∷ [] → all ≡ before ++ be_bytes w n
be_last w n before others all some first last = last ∙ rw (first, be_step w n some, append_assoc) refl
