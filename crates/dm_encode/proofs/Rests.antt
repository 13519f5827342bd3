-- What holds of each element of a list holds of each behind the first.
use Rattle.std.proofs.Common.{◌-◌, Bool, true, false, ◌&&◌, List, [], ◌∷◌, length, take, drop, refl}
use Rattle.std.specs.Prelude.{IsTrue}
use Rattle.std.specs.List.{list_all}
use Rattle.std.proofs.lemmas.List.{take_rest}

-- the parts of a test of two
pub both : (a b : Bool) → IsTrue (a && b) → IsTrue a × IsTrue b
both true true h = (refl, refl)
both true false h = absurd cc
both false b h = absurd cc

pub rest_all : {A : Type 0} (test : A → Bool) (xs : List A) → IsTrue (list_all test xs) → IsTrue (list_all test (take (length xs - 1) (drop 1 xs)))
rest_all test [] all = refl
rest_all test (x ∷ xs) all = rw (take_rest (x ∷ xs) 1) (both (test x) (list_all test xs) all).1
