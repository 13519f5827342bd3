-- Texts that are added one behind another, with a separator between them.
use Rattle.std.proofs.Common.{◌≡◌, ℕ, ◌-◌, ◌≤◌, List, [], ◌∷◌, ◌++◌, map, length, get_or, take, drop, refl, ap, arith}
use Rattle.std.proofs.lemmas.Grind.{common_steps}
use Rattle.std.specs.List.{flat_map}
use Rattle.dm_text.proofs.Joins.{two_joined, three_joined}
use Rattle.dm_stmt.specs.Texts.{behind, separated}

pub four_joined : (old a b c d first second third last : List ℕ) → first ≡ old ++ a → second ≡ first ++ b → third ≡ second ++ c → last ≡ third ++ d → last ≡ old ++ (a ++ b ++ c ++ d)
four_joined old a b c d first second third last e1 e2 e3 e4 = three_joined old (a ++ b) c d second third last (two_joined old a b first second e1 e2) e3 e4

-- each behind a separator
flat_map-behind : {A : Type 0} (separator : List ℕ) (f : A → List ℕ) (xs : List A) → flat_map (behind separator) (map f xs) ≡ flat_map (λ x. behind separator (f x)) xs
flat_map-behind separator f [] = refl
flat_map-behind separator f (x ∷ xs) = ap (λ (rest : List ℕ). behind separator (f x) ++ rest) (flat_map-behind separator f xs)

-- of a list that is known to have a first element: this, and each further one behind a separator
pub separated-map : {A : Type 0} (separator : List ℕ) (f : A → List ℕ) (xs : List A) (x : A) → 1 ≤ length xs → x ≡ get_or xs 0 x →
    separated separator (map f xs) ≡ f x ++ flat_map (λ y. behind separator (f y)) (take (length xs - 1) (drop 1 xs))
separated-map separator f [] x some is = absurd (omega arith)
separated-map separator f (y ∷ ys) x some is = grind (arith, common_steps, flat_map-behind separator f ys)
