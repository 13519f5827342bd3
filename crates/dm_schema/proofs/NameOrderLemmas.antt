-- Putting things in byte order of their names.
use Rattle.std.proofs.Common.{◌≡◌, ℕ, suc, ◌+◌, ◌-◌, ◌<◌, ◌≤◌, Bool, true, false, cond, List, [], ◌∷◌, length, get_or, take, drop, insert, map, refl, sym, ap, ◌∙◌, arith}
use Rattle.std.specs.Ordering.{is_lt}
use Rattle.dm_schema.specs.Names.{Text, name_cmp}
use Rattle.dm_schema.specs.NameOrder.{put_by, in_order_of}

-- before a greater name
pub put_by-before : {A : Type 0} (name : A → Text) (x first : A) (xs : List A) → 1 ≤ length xs → first ≡ get_or xs 0 first → true ≡ is_lt (name_cmp (name x) (name first)) → x ∷ xs ≡ put_by name x xs
put_by-before name x first [] some f e = absurd (omega arith)
put_by-before name x first (y ∷ ys) some f e = rw (← f, ← e) refl

-- behind a name that isn't greater
pub put_by-behind : {A : Type 0} (name : A → Text) (x first : A) (xs rest : List A) (n : ℕ) → 1 ≤ length xs → first ≡ get_or xs 0 first → rest ≡ drop 1 xs → false ≡ is_lt (name_cmp (name x) (name first))
    → insert rest n x ≡ put_by name x rest → insert xs (n + 1) x ≡ put_by name x xs
put_by-behind name x first [] rest n some f r e h = absurd (omega arith)
put_by-behind name x first (y ∷ ys) rest n some f r e h =
    let more : n + 1 ≡ suc n = omega arith in
    rw (← f, ← e, more) (ap (λ zs. first ∷ zs) (rw r at h))
