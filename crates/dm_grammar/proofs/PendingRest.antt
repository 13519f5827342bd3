use Rattle.std.proofs.Common.{◌≡◌, ℕ, Bool, true, false, ◌&&◌, is_some, ◌⊎◌, inl, inr, List, [], ◌∷◌, ◌++◌, Option, Some, None, refl, sym, ◌∙◌, ap, subst, if◌then◌else◌}
use Rattle.std.proofs.lemmas.Bool.{true≢false, false≢true}
use Rattle.dm_grammar.specs.Grammar.{Grammar, Membership}
use Rattle.dm_grammar.specs.Determinism.{is_nullable, Next, with_rest, or_else, after, sequence}
use Rattle.dm_grammar.specs.Meaning.{rest_of, rests_of, Advances, Steps}
use Rattle.dm_grammar.specs.declared.stack.Pending.{Pending}

-- The stack of what is still to be read.

pub rests_of-push : (stack : List Pending) (top : Pending) → rests_of (stack ++ top ∷ []) ≡ rests_of stack ++ rest_of top ∷ []
rests_of-push [] top = refl
rests_of-push (part ∷ stack) top = ap (λ (z : List Grammar). rest_of part ∷ z) (rests_of-push stack top)

-- The top of the stack is asked first; where it may be empty, what lies below it is asked then.
pub asked : Next → List Grammar → Bool → Next → Next
asked None below nullable other = if nullable then other else None
asked (Some next) below nullable other = Some (next.0, below ++ next.1)

asked-below : (last : Grammar) (next_top next_below next_last : Next) (below : List Grammar) (nullable below_nullable all_nullable : Bool) → all_nullable ≡ (below_nullable && nullable) → or_else (with_rest last (asked next_top below nullable next_below)) (if all_nullable then next_last else None) ≡ asked next_top (last ∷ below) nullable (or_else (with_rest last next_below) (if below_nullable then next_last else None))
unfolding asked
asked-below last (Some next) next_below next_last below nullable below_nullable all_nullable e = refl
asked-below last None next_below next_last below true true all_nullable e = rw e refl
asked-below last None next_below next_last below true false all_nullable e = rw e refl
asked-below last None next_below next_last below false true all_nullable e = rw e refl
asked-below last None next_below next_last below false false all_nullable e = rw e refl

is_nullable-push : (stack : List Grammar) (top : Grammar) → is_nullable (sequence (stack ++ top ∷ [])) ≡ (is_nullable (sequence stack) && is_nullable top)
is_nullable-push [] top = refl
is_nullable-push (last ∷ stack) top = swap (is_nullable (sequence stack)) (is_nullable top) (is_nullable last) (is_nullable (sequence (stack ++ top ∷ []))) (is_nullable-push stack top)
  where
    swap : (a b c d : Bool) → d ≡ (a && b) → (d && c) ≡ (a && c && b)
    swap true true true d e = rw e refl
    swap true true false d e = rw e refl
    swap true false true d e = rw e refl
    swap true false false d e = rw e refl
    swap false b true d e = rw e refl
    swap false b false d e = rw e refl

after-push : (has : Membership) (stack : List Grammar) (top : Grammar) (kind : ℕ) → after has (sequence (stack ++ top ∷ [])) kind ≡ asked (after has top kind) stack (is_nullable top) (after has (sequence stack) kind)
unfolding asked
after-push has [] top kind = alone (after has top kind) (is_nullable top)
  where
    alone : (next : Next) (nullable : Bool) → or_else None next ≡ asked next [] nullable None
    alone (Some next) nullable = refl
    alone None true = refl
    alone None false = refl
after-push has (last ∷ stack) top kind =
    ap (λ (z : Next). or_else (with_rest last z) (if is_nullable (sequence (stack ++ top ∷ [])) then after has last kind else None)) (after-push has stack top kind)
    ∙ asked-below last (after has top kind) (after has (sequence stack) kind) (after has last kind) stack (is_nullable top) (is_nullable (sequence stack)) (is_nullable (sequence (stack ++ top ∷ []))) (is_nullable-push stack top)

-- the top was taken off
pub after-pop : (has : Membership) (old below : List Pending) (top : Pending) (kind : ℕ) (all : Next) → old ≡ below ++ top ∷ [] → after has (sequence (rests_of old)) kind ≡ all → all ≡ asked (after has (rest_of top) kind) (rests_of below) (is_nullable (rest_of top)) (after has (sequence (rests_of below)) kind)
after-pop has old below top kind all e q =
    sym q ∙ ap (λ (z : List Pending). after has (sequence (rests_of z)) kind) e ∙ ap (λ (z : List Grammar). after has (sequence z) kind) (rests_of-push below top) ∙ after-push has (rests_of below) (rest_of top) kind

-- the top took the token, or has to take one
pub Steps-asked : (taken : Option ℕ) (next all other : Next) (below new : List Grammar) (nullable : Bool) → all ≡ asked next below nullable other → (is_some taken ≡ true) ⊎ (nullable ≡ false) → Advances taken next below new → Steps taken all new
unfolding asked
Steps-asked taken None all other below new nullable e (inl p) h = absurd (false≢true (subst (λ (z : Option ℕ). is_some z ≡ true) h.0 p))
Steps-asked taken None all other below new true e (inr p) h = absurd (true≢false p)
Steps-asked taken None all other below new false e (inr p) h = subst (λ (z : Next). Steps taken z new) (sym e) h.0
Steps-asked taken (Some next) all other below new nullable e p h = subst (λ (z : Next). Steps taken z new) (sym e) h

-- the top did not take it, and need not take one
pub after-passed : (has : Membership) (kind : ℕ) (taken : Option ℕ) (next all : Next) (below new : List Grammar) (nullable : Bool) → all ≡ asked next below nullable (after has (sequence below) kind) → is_some taken ≡ false → nullable ≡ true → Advances taken next below new → after has (sequence new) kind ≡ all
unfolding asked
after-passed has kind taken None all below new true e p q h = ap (λ (z : List Grammar). after has (sequence z) kind) h.1 ∙ sym e
after-passed has kind taken None all below new false e p q h = absurd (false≢true q)
after-passed has kind taken (Some next) all below new nullable e p q h = absurd (true≢false (subst (λ (z : Option ℕ). is_some z ≡ false) h.0 p))
