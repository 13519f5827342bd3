-- Lists of positions, compared position by position.
use Rattle.std.specs.Prelude.{ℕ, ◌≤◌, max, ⊤, List, [], ◌∷◌}

-- the second list has each position of the first, and none is below it
abbrev pub AtMost : List ℕ → List ℕ → Type 0
AtMost [] ys = ⊤
AtMost (x ∷ xs) [] = ⊥
AtMost (x ∷ xs) (y ∷ ys) = (x ≤ y) × AtMost xs ys

-- the greater of both, position by position
abbrev pub greater : List ℕ → List ℕ → List ℕ
greater [] ys = ys
greater (x ∷ xs) [] = x ∷ xs
greater (x ∷ xs) (y ∷ ys) = max x y ∷ greater xs ys
