-- Going over the unique keys of a schema, each of which gives a key or none.
use Rattle.std.proofs.Common.{◌≡◌, ℕ, ◌+◌, ◌<◌, List, ◌∷◌, length, get_or, drop, fold, Option, Some, None, refl, sym, ap, ◌∙◌}
use Rattle.std.specs.Option.{option_to_list}
use Rattle.std.specs.List.{filter_map, cons_option}
use Rattle.std.proofs.lemmas.List.{at_drop_more}

-- what one gives is put first, and then what the others give
put_first : {B K : Type 0} (put : B → K → B) (start : B) (o : Option K) (rest : List K) → fold put (fold put start (option_to_list o)) rest ≡ fold put start (cons_option o rest)
put_first put start None rest = refl
put_first put start (Some k) rest = refl

pub one_more : {A B K : Type 0} (put : B → K → B) (f : A → Option K) (start total : B) (xs : List A) (i : ℕ) (x : A) → i < length xs → x ≡ get_or xs i x
    → fold put start (filter_map f (drop i xs)) ≡ total → fold put (fold put start (option_to_list (f x))) (filter_map f (drop (i + 1) xs)) ≡ total
one_more put f start total xs i x lt here so_far =
    let rest = filter_map f (drop (i + 1) xs) in
    put_first put start (f x) rest
    ∙ ap (λ y. fold put start (cons_option (f y) rest)) here
    ∙ sym (ap (fold put start) (at_drop_more (filter_map f) xs i x lt))
    ∙ so_far
