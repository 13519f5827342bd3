-- The names of files that lists hold.
use Rattle.std.proofs.Common.{◌≡◌, List, [], ◌∷◌, ◌++◌, subst, sym}
use Rattle.std.specs.List.{AllByRecursion, flat_map}
use Rattle.std.proofs.lemmas.List.Concat.{flat_map-append}

pub both_hold : {X : Type 0} (P : X → Type 0) (xs ys : List X) → AllByRecursion P xs → AllByRecursion P ys → AllByRecursion P (xs ++ ys)
both_hold P [] ys front back = back
both_hold P (x ∷ xs) ys front back = (front.0, both_hold P xs ys front.1 back)

-- one more element
pub more_hold : {X Y : Type 0} (P : Y → Type 0) (files : X → List Y) (xs more : List X) (x : X) → more ≡ xs ++ x ∷ [] → AllByRecursion P (flat_map files xs) → AllByRecursion P (files x)
    → AllByRecursion P (flat_map files more)
more_hold P files xs more x more_is front back =
    let all = both_hold P (flat_map files xs) (files x ++ []) front (both_hold P (files x) [] back tt) in
    subst (λ list. AllByRecursion P (flat_map files list)) (sym more_is) (subst (AllByRecursion P) (sym (flat_map-append files xs (x ∷ []))) all)

-- of a list of names, each of which holds itself alone
pub names_hold : {X : Type 0} (P : X → Type 0) (names : List X) → AllByRecursion P (flat_map (λ name. name ∷ []) names) → AllByRecursion P names
names_hold P [] h = h
names_hold P (name ∷ names) h = (h.0, names_hold P names h.1)
