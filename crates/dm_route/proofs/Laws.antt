-- What follows for patterns: a run takes any front, a pattern of a run alone takes all, and a text without signs takes
-- itself alone.
use Rattle.std.proofs.Common.{◌≡◌, ℕ, Bool, true, false, not, ◌&&◌, inl, inr, List, [], ◌∷◌, ◌++◌, drop, refl, ap, ◌∙◌, eqb, ltb, cond}
use Rattle.std.specs.List.{list_all}
use Rattle.std.proofs.lemmas.Bool.{and_parts, or_right, or_cases, not-true}
use Rattle.dm_schema.specs.Names.{same_name}
use Rattle.dm_route.specs.declared.sign.Sign.{Sign}
use Rattle.dm_route.specs.declared.sign.Sign.TheVariants.{Run, Byte}
use Rattle.dm_route.specs.Patterns.{sign_of, signs_of, matches_somewhere, matches}
use Rattle.dm_route.proofs.Runs.{at_front}

-- What a run takes.

-- a front of the name that leaves what passes
abbrev pub Split : (List ℕ → Bool) → List ℕ → Type 0
Split f name = (front : List ℕ) × (rest : List ℕ) × (name ≡ front ++ rest) × (f rest ≡ true)

somewhere_splits : (f : List ℕ → Bool) (name : List ℕ) → matches_somewhere f name ≡ true → Split f name
somewhere_splits f [] h = ([], [], refl, h)
somewhere_splits f (b ∷ bs) h = elim (or_cases (f (b ∷ bs)) (matches_somewhere f bs) h) as (λ _. Split f (b ∷ bs)) [
  | inl here ↦ ([], b ∷ bs, refl, here)
  | inr there ↦ let s = somewhere_splits f bs there in (b ∷ s.0, s.1, ap (λ xs. b ∷ xs) s.2, s.3)
]

split_somewhere : (f : List ℕ → Bool) (front rest : List ℕ) → f rest ≡ true → matches_somewhere f (front ++ rest) ≡ true
split_somewhere f [] rest h = at_front f rest h
split_somewhere f (b ∷ bs) rest h = or_right _ _ (split_somewhere f bs rest h)

-- where a name matches a run and signs behind it, some front leaves what matches these
pub run_splits : (signs : List Sign) (name : List ℕ) → matches (Run ∷ signs) name ≡ true → Split (matches signs) name
run_splits signs name h = somewhere_splits (matches signs) name h

-- and any front may stand for the run
pub run_takes : (signs : List Sign) (front rest : List ℕ) → matches signs rest ≡ true → matches (Run ∷ signs) (front ++ rest) ≡ true
run_takes signs front rest h = split_somewhere (matches signs) front rest h

-- each name matches `*`
pub all_match : (name : List ℕ) → matches (signs_of (42 ∷ [])) name ≡ true
all_match [] = refl
all_match (b ∷ bs) = all_match bs

-- Texts without signs.

abbrev pub is_plain : ℕ → Bool
is_plain b = not (eqb b 42) && not (eqb b 63)

plain_sign : (b : ℕ) → is_plain b ≡ true → sign_of b ≡ Byte b
plain_sign b h =
    let parts = and_parts (not (eqb b 42)) (not (eqb b 63)) h in
    rw (not-true _ parts.0, not-true _ parts.1) refl

-- such a text takes itself alone
pub plain_takes_itself : (text name : List ℕ) → list_all is_plain text ≡ true → matches (signs_of text) name ≡ same_name name text
plain_takes_itself [] [] all = refl
plain_takes_itself [] (b ∷ bs) all = refl
plain_takes_itself (t ∷ ts) [] all =
    let parts = and_parts (is_plain t) (list_all is_plain ts) all in
    ap (λ s. matches (s ∷ signs_of ts) []) (plain_sign t parts.0)
plain_takes_itself (t ∷ ts) (b ∷ bs) all =
    let parts = and_parts (is_plain t) (list_all is_plain ts) all in
    ap (λ s. matches (s ∷ signs_of ts) (b ∷ bs)) (plain_sign t parts.0) ∙ by (eqb b t) (plain_takes_itself ts bs parts.1) where
      by : (e : Bool) → matches (signs_of ts) bs ≡ same_name bs ts
          → (let taken : ℕ = cond e 1 0 in ltb 0 taken && matches (signs_of ts) (drop taken (b ∷ bs))) ≡ (e && same_name bs ts)
      by true h = h
      by false h = refl
