-- Pieces with commas between them.
use Rattle.std.proofs.Common.{◌≡◌, ℕ, ◌-◌, ◌≤◌, List, [], ◌∷◌, ◌++◌, map, length, get_or, take, drop, refl, ap, arith}
use Rattle.std.proofs.lemmas.Grind.{common_steps}
use Rattle.std.specs.List.{flat_map}
use Rattle.dm_text.specs.Names.{behind_comma, with_commas}

-- each behind a comma
behind_commas : {A : Type 0} (f : A → List ℕ) (xs : List A) → flat_map behind_comma (map f xs) ≡ flat_map (λ x. 44 ∷ f x) xs
behind_commas f [] = refl
behind_commas f (x ∷ xs) = ap (λ (rest : List ℕ). 44 ∷ f x ++ rest) (behind_commas f xs)

-- of a list that is known to have a first element: this, and each further one behind a comma
pub with_commas-map : {A : Type 0} (f : A → List ℕ) (xs : List A) (x : A) → 1 ≤ length xs → x ≡ get_or xs 0 x → with_commas (map f xs) ≡ f x ++ flat_map (λ y. 44 ∷ f y) (take (length xs - 1) (drop 1 xs))
with_commas-map f [] x some is = absurd (omega arith)
with_commas-map f (y ∷ ys) x some is = grind (arith, common_steps, behind_commas f ys)
