-- Why a run that was reached may take as little as it can.
use Rattle.std.proofs.Common.{◌≡◌, ℕ, zero, suc, ◌+◌, ◌-◌, ◌<◌, ◌≤◌, Bool, true, false, inl, inr, List, [], ◌∷◌, length, drop, get_or, refl, sym, ap, ◌∙◌, subst, arith, eqb, cond, drop-drop, ◌≢◌}
use Rattle.std.proofs.lemmas.Bool.{ltb-true, lt-ltb, and_parts, or_left, or_right, or_cases}
use Rattle.std.proofs.lemmas.List.{length-drop}
use Rattle.dm_route.specs.declared.sign.Sign.{Sign}
use Rattle.dm_route.specs.declared.sign.Sign.TheVariants.{Run, Character, Byte}
use Rattle.dm_route.specs.Patterns.{width, passes_behind, matches_somewhere, matches}
use Rattle.dm_route.specs.Reaching.{somewhere, ReachesRun}
use Rattle.dm_route.proofs.Overlaps.{characters_apart}

pub record ReachedSoFar (signs : List Sign) (name : List ℕ) (behind : List Sign) (left : List ℕ) : Type 0 where
  pub here : matches signs name ≡ matches behind left
  pub anywhere : somewhere signs name ≡ true → somewhere behind left ≡ true
  pub fewer : length behind ≤ length signs
  pub within : length left ≤ length name

same_by_both : (a b : Bool) → (a ≡ true → b ≡ true) → (b ≡ true → a ≡ true) → a ≡ b
same_by_both true b f g = sym (f refl)
same_by_both false true f g = g refl
same_by_both false false f g = refl

-- Places.

pub at_front : (f : List ℕ → Bool) (xs : List ℕ) → f xs ≡ true → matches_somewhere f xs ≡ true
at_front f [] h = h
at_front f (x ∷ xs) h = or_left _ _ h

more_places : (f : List ℕ → Bool) (k : ℕ) (xs : List ℕ) → matches_somewhere f (drop k xs) ≡ true → matches_somewhere f xs ≡ true
more_places f zero xs h = h
more_places f (suc k) [] h = h
more_places f (suc k) (x ∷ xs) h = or_right _ _ (more_places f k xs h)

-- a place behind which a name passes
abbrev Place : (List ℕ → Bool) → List ℕ → Type 0
Place f xs = (k : ℕ) × (f (drop k xs) ≡ true)

place_of : (f : List ℕ → Bool) (xs : List ℕ) → matches_somewhere f xs ≡ true → Place f xs
place_of f [] h = (0, h)
place_of f (x ∷ xs) h = elim (or_cases (f (x ∷ xs)) (matches_somewhere f xs) h) as (λ _. Place f (x ∷ xs)) [
  | inl here ↦ (0, here)
  | inr there ↦ let p = place_of f xs there in (suc p.0, p.1)
]

-- two runs in a row are one
once : (f : List ℕ → Bool) (xs : List ℕ) → matches_somewhere (matches_somewhere f) xs ≡ true → matches_somewhere f xs ≡ true
once f xs h = let p = place_of (matches_somewhere f) xs h in more_places f p.0 xs p.1

-- One sign.

-- what one sign at the front takes reaches at most as far as what it takes at a later place
apart : (s : Sign) (k : ℕ) (xs : List ℕ) → 0 < width s xs → 0 < width s (drop k xs) → width s xs ≤ k + width s (drop k xs)
apart Run k xs here there = absurd (omega arith)
apart Character k xs here there = characters_apart k xs there
apart (Byte b) k [] here there = absurd (omega arith)
apart (Byte b) k (x ∷ xs) here there = by (eqb x b) there where
  by : (t : Bool) → 0 < width (Byte b) (drop k (x ∷ xs)) → cond t 1 0 ≤ k + width (Byte b) (drop k (x ∷ xs))
  by true h = omega arith
  by false h = omega arith

passes : (n : ℕ) (f : List ℕ → Bool) (xs : List ℕ) → 0 < n → passes_behind n f xs ≡ f (drop n xs)
passes n f xs h = rw (lt-ltb 0 n h) refl

one_sign : (s : Sign) (signs : List Sign) (xs : List ℕ) → 0 < width s xs → matches (s ∷ signs) xs ≡ matches signs (drop (width s xs) xs)
one_sign Run signs xs some = absurd (omega arith)
one_sign Character signs xs some = passes _ (matches signs) xs some
one_sign (Byte b) signs xs some = passes _ (matches signs) xs some

takes_some : (s : Sign) (signs : List Sign) (xs : List ℕ) → s ≢ Run → matches (s ∷ signs) xs ≡ true → 0 < width s xs
takes_some Run signs xs other h = absurd (other refl)
takes_some Character signs xs other h = ltb-true _ _ (and_parts _ _ h).0
takes_some (Byte b) signs xs other h = ltb-true _ _ (and_parts _ _ h).0

takes_none : (s : Sign) (signs : List Sign) (xs : List ℕ) → s ≢ Run → width s xs ≡ 0 → matches (s ∷ signs) xs ≡ false
takes_none Run signs xs other none = absurd (other refl)
takes_none Character signs xs other none = rw none refl
takes_none (Byte b) signs xs other none = rw none refl

-- what matches at some place matches, behind its first sign, behind what the sign takes at the front
forward : (s : Sign) (signs : List Sign) (xs : List ℕ) → s ≢ Run → 0 < width s xs → somewhere (s ∷ signs) xs ≡ true → somewhere signs (drop (width s xs) xs) ≡ true
forward s signs xs other some h =
    let p = place_of (matches (s ∷ signs)) xs h in
    let later : List ℕ = drop p.0 xs in
    let w : ℕ = width s xs in
    let m : ℕ = width s later in
    let takes : 0 < m = takes_some s signs later other p.1 in
    let here : matches signs (drop m later) ≡ true = sym (one_sign s signs later takes) ∙ p.1 in
    let far : w ≤ p.0 + m = apart s p.0 xs some takes in
    let place : p.0 + m ≡ w + (p.0 + m - w) = omega (arith, far) in
    let same : drop m later ≡ drop (p.0 + m - w) (drop w xs) = drop-drop m p.0 xs ∙ ap (λ k. drop k xs) place ∙ sym (drop-drop (p.0 + m - w) w xs) in
    more_places (matches signs) (p.0 + m - w) (drop w xs) (at_front (matches signs) _ (ap (matches signs) (sym same) ∙ here))

-- The signs up to a run.

pub so_far : (signs : List Sign) (name : List ℕ) → ReachedSoFar signs name signs name
so_far signs name = record { here = refl; anywhere = λ h. h; fewer = omega arith; within = omega arith }

pub one_more : (signs : List Sign) (name : List ℕ) (s : Sign) (behind : List Sign) (left : List ℕ) → s ≢ Run → 0 < width s left → width s left ≤ length left
    → ReachedSoFar signs name (s ∷ behind) left → ReachedSoFar signs name behind (drop (width s left) left)
one_more signs name s behind left other some within r = record {
  here = r.here ∙ one_sign s behind left some;
  anywhere = λ h. forward s behind left other some (r.anywhere h);
  fewer = omega (arith, r.fewer);
  within = omega (arith, r.within, length-drop (width s left) left);
}

before_run : (signs : List Sign) (name : List ℕ) (behind : List Sign) (left : List ℕ) → ReachedSoFar signs name (Run ∷ behind) left → ReachesRun signs name behind left
before_run signs name behind left r = record {
  here = r.here;
  anywhere = same_by_both _ _ (λ h. once (matches behind) left (r.anywhere h)) (λ h. at_front (matches signs) name (r.here ∙ h));
  fewer = omega (arith, r.fewer);
  within = r.within;
}

-- the first of the signs is a run
pub at_run : (signs : List Sign) (name : List ℕ) (all behind : List Sign) (left : List ℕ) (d : Sign) → 1 ≤ length all → get_or all 0 d ≡ Run → behind ≡ drop 1 all
    → ReachedSoFar signs name all left → ReachesRun signs name behind left
at_run signs name [] behind left d some is rest r = absurd (omega arith)
at_run signs name (s ∷ all) behind left d some is rest r = rw rest (before_run signs name all left (subst (λ f. ReachedSoFar signs name (f ∷ all) left) is r))

-- the first of the signs is another
pub at_sign : (signs : List Sign) (name : List ℕ) (all behind : List Sign) (left rest : List ℕ) (d : Sign) (n : ℕ) → 1 ≤ length all → get_or all 0 d ≢ Run → behind ≡ drop 1 all
    → n ≡ width (get_or all 0 d) left → 0 < n → n ≤ length left → rest ≡ drop n left → ReachedSoFar signs name all left → ReachedSoFar signs name behind rest
at_sign signs name [] behind left rest d n some other e is many within there r = absurd (omega arith)
at_sign signs name (s ∷ all) behind left rest d n some other e is many within there r =
    rw (e, there, is) (one_more signs name s all left other (omega (arith, is)) (omega (arith, is)) r)

-- the first of the signs takes nothing
pub at_fault : (signs : List Sign) (name : List ℕ) (all : List Sign) (left : List ℕ) (d : Sign) (n : ℕ) → 1 ≤ length all → get_or all 0 d ≢ Run
    → n ≡ width (get_or all 0 d) left → n ≡ 0 → ReachedSoFar signs name all left → matches signs name ≡ false
at_fault signs name [] left d n some other is none r = absurd (omega arith)
at_fault signs name (s ∷ all) left d n some other is none r = r.here ∙ takes_none s all left other (sym is ∙ none)

-- Places of the name.

pub found : (signs : List Sign) (name : List ℕ) (all : Bool) → matches signs name ≡ true → somewhere signs name ≡ all → true ≡ all
found signs name all h so_far = sym (at_front (matches signs) name h) ∙ so_far
