-- Lists of positions are ordered, and the greater of two is the least list above both.
use Rattle.std.proofs.Common.{ℕ, List, [], ◌∷◌, arith}
use Rattle.dm_rulelock.specs.Positions.{AtMost, greater}

pub AtMost-refl : (xs : List ℕ) → AtMost xs xs
AtMost-refl [] = tt
AtMost-refl (x ∷ xs) = (omega arith, AtMost-refl xs)

pub AtMost-trans : (xs ys zs : List ℕ) → AtMost xs ys → AtMost ys zs → AtMost xs zs
AtMost-trans [] ys zs below above = tt
AtMost-trans (x ∷ xs) [] zs below above = absurd below
AtMost-trans (x ∷ xs) (y ∷ ys) [] below above = absurd above
AtMost-trans (x ∷ xs) (y ∷ ys) (z ∷ zs) below above =
    let low = below.0 in
    let high = above.0 in
    (omega arith, AtMost-trans xs ys zs below.1 above.1)

pub greater-AtMost : (xs ys zs : List ℕ) → AtMost xs zs → AtMost ys zs → AtMost (greater xs ys) zs
greater-AtMost [] ys zs left right = right
greater-AtMost (x ∷ xs) [] zs left right = left
greater-AtMost (x ∷ xs) (y ∷ ys) [] left right = absurd left
greater-AtMost (x ∷ xs) (y ∷ ys) (z ∷ zs) left right =
    let first = left.0 in
    let second = right.0 in
    (omega arith, greater-AtMost xs ys zs left.1 right.1)

pub AtMost-greater : (xs ys : List ℕ) → AtMost xs (greater xs ys)
AtMost-greater [] ys = tt
AtMost-greater (x ∷ xs) [] = AtMost-refl (x ∷ xs)
AtMost-greater (x ∷ xs) (y ∷ ys) = (omega arith, AtMost-greater xs ys)
