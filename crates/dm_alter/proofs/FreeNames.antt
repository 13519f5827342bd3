-- Looking for a name that isn't taken, number by number.
use Rattle.std.proofs.Common.{◌≡◌, ℕ, suc, ◌+◌, ◌-◌, ◌<◌, ◌≤◌, Bool, true, false, not, cond, List, map, Option, Some, None, unwrap_or, refl, sym, ◌∙◌, arith}
use Rattle.std.specs.List.{find, range_with_len}
use Rattle.dm_schema.specs.declared.column.UniqueKey.{UniqueKey}
use Rattle.dm_schema.specs.Names.{Text}
use Rattle.dm_schema.specs.Effect.{is_taken, numbered}

-- the first free name from a number on
abbrev pub free_from : List UniqueKey → Text → ℕ → Text
free_from uniques name number = unwrap_or (find (λ n. not (is_taken uniques n)) (map (numbered name) (range_with_len number (19 - number)))) name

chosen : (b : Bool) (x : Text) (o : Option Text) (name : Text) → unwrap_or (cond b (Some x) o) name ≡ cond b x (unwrap_or o name)
chosen true x o name = refl
chosen false x o name = refl

one_more : (uniques : List UniqueKey) (name : Text) (number : ℕ) → number < 19
    → free_from uniques name number ≡ cond (not (is_taken uniques (numbered name number))) (numbered name number) (free_from uniques name (number + 1))
one_more uniques name number lt =
    let e : 19 - number ≡ suc (19 - (number + 1)) = omega arith in
    rw e (chosen (not (is_taken uniques (numbered name number))) (numbered name number) _ name)

pub found : (uniques : List UniqueKey) (name candidate total : Text) (number : ℕ) → number < 19 → candidate ≡ numbered name number → is_taken uniques candidate ≡ false
    → free_from uniques name number ≡ total → candidate ≡ total
found uniques name candidate total number lt here free so_far =
    let taken : is_taken uniques (numbered name number) ≡ false = rw here at free in
    let step : free_from uniques name number ≡ numbered name number = one_more uniques name number lt ∙ rw taken refl in
    here ∙ sym step ∙ so_far

pub passed : (uniques : List UniqueKey) (name candidate total : Text) (number : ℕ) → number < 19 → candidate ≡ numbered name number → is_taken uniques candidate ≡ true
    → free_from uniques name number ≡ total → free_from uniques name (number + 1) ≡ total
passed uniques name candidate total number lt here is_there so_far =
    let taken : is_taken uniques (numbered name number) ≡ true = rw here at is_there in
    let step : free_from uniques name number ≡ free_from uniques name (number + 1) = one_more uniques name number lt ∙ rw taken refl in
    sym step ∙ so_far

pub ended : (uniques : List UniqueKey) (name total : Text) (number : ℕ) → 19 ≤ number → free_from uniques name number ≡ total → name ≡ total
ended uniques name total number le so_far =
    let e : 19 - number ≡ 0 = omega arith in
    rw e at so_far
