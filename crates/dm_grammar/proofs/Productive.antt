use Rattle.std.proofs.Common.{◌≡◌, ℕ, suc, zero, Bool, true, false, not, ◌&&◌, ◌==◌, List, [], ◌∷◌, ◌++◌, Option, Some, None, inl, inr, refl, subst, if◌then◌else◌}
use Rattle.std.proofs.lemmas.Bool.{or_cases, and_parts, and_from, false≢true}
use Rattle.dm_grammar.specs.Grammar.{Grammar, Empty, Word, Skip, Seq, Or, Many, Membership, Letter, skipped, unsupported, open_after, Closes, Spells, kind_count}
use Rattle.dm_grammar.specs.Determinism.{is_nullable, Next, with_rest, or_else, skip_to, after, sequence, any_below, is_productive, stays_productive}
use Rattle.dm_grammar.specs.Sentence.{AllSupported}

AllSupported-append : (xs ys : List Letter) → AllSupported xs → AllSupported ys → AllSupported (xs ++ ys)
AllSupported-append [] ys p q = q
AllSupported-append (x ∷ xs) ys p q = (p.0, AllSupported-append xs ys p.1 q)

some_below : (set : ℕ → Bool) (count : ℕ) → any_below set count ≡ true → (kind : ℕ) × (set kind ≡ true)
some_below set zero e = absurd (false≢true e)
some_below set (suc count) e = elim (or_cases (set count) (any_below set count) e) [ inl h ↦ (count, h) | inr h ↦ some_below set count h ]

-- brackets that are open can be closed
closing_run : (depth : ℕ) → (letters : List Letter) × AllSupported letters × Closes depth letters
closing_run zero = ([], tt, refl)
closing_run (suc depth) = let run = closing_run depth in ((2, skipped) ∷ run.0, ((λ e. absurd cc), run.1), (depth, refl, refl, run.2))

-- what is productive spells a sentence
pub productive_spells : (has : Membership) (g : Grammar) → is_productive has g ≡ true → (letters : List Letter) × AllSupported letters × Spells has g letters
productive_spells has Empty e = ([], tt, refl)
productive_spells has (Word class role) e =
    let p = and_parts (not (role == unsupported)) (any_below (has class) kind_count) e in
    let found = some_below (has class) kind_count p.1 in
    ((found.0, role) ∷ [], ((λ q. is_supported role q p.0), tt), (found.0, found.1, refl))
  where
    is_supported : (role : ℕ) → role ≡ unsupported → not (role == unsupported) ≡ true → ⊥
    is_supported role q h = false≢true (subst (λ (z : ℕ). not (z == unsupported) ≡ true) q h)
productive_spells has (Skip depth) e = closing_run depth
productive_spells has (Seq a b) e =
    let p = and_parts (is_productive has a) (is_productive has b) e in
    let x = productive_spells has a p.0 in
    let y = productive_spells has b p.1 in
    (x.0 ++ y.0, AllSupported-append x.0 y.0 x.1 y.1, (x.0, y.0, refl, x.2, y.2))
productive_spells has (Or a b) e =
    elim (or_cases (is_productive has a) (is_productive has b) e) [
      | inl h ↦ (let x = productive_spells has a h in (x.0, x.1, inl x.2))
      | inr h ↦ (let x = productive_spells has b h in (x.0, x.1, inr x.2))
    ]
productive_spells has (Many a) e = ([], tt, (0, refl))

-- what is left behind a token is productive, and stays so
abbrev pub ProductiveAt : Membership → Next → Type 0
ProductiveAt has None = Unit {0}
ProductiveAt has (Some next) = (is_productive has (sequence next.1) ≡ true) × (stays_productive has (sequence next.1) ≡ true)

-- a part b comes behind what is left of a part before it
rest_productive : (has : Membership) (a b : Grammar) → is_productive has b ≡ true → stays_productive has b ≡ true → (is_productive has a ≡ true) × (stays_productive has a ≡ true) → (is_productive has (Seq a b) ≡ true) × (stays_productive has (Seq a b) ≡ true)
rest_productive has a b productive stays x = (
  and_from (is_productive has a) (is_productive has b) x.0 productive,
  and_from (stays_productive has a && stays_productive has b) (is_productive has b) (and_from (stays_productive has a) (stays_productive has b) x.1 stays) productive,
)

seq_productive : (has : Membership) (b : Grammar) (next_a next_b : Next) (nullable : Bool) → is_productive has b ≡ true → stays_productive has b ≡ true → ProductiveAt has next_a → ProductiveAt has next_b → ProductiveAt has (or_else (with_rest b next_a) (if nullable then next_b else None))
seq_productive has b (Some next) next_b nullable productive stays x y = rest_productive has (sequence next.1) b productive stays x
seq_productive has b None next_b true productive stays x y = y
seq_productive has b None next_b false productive stays x y = tt

or_productive : (has : Membership) (next_a next_b : Next) → ProductiveAt has next_a → ProductiveAt has next_b → ProductiveAt has (or_else next_a next_b)
or_productive has (Some next) next_b x y = x
or_productive has None next_b x y = y

many_productive : (has : Membership) (a : Grammar) (next_a : Next) → stays_productive has a ≡ true → ProductiveAt has next_a → ProductiveAt has (with_rest (Many a) next_a)
many_productive has a None stays x = tt
many_productive has a (Some next) stays x = rest_productive has (sequence next.1) (Many a) refl stays x

word_productive : (has : Membership) (role : ℕ) (taken : Bool) → ProductiveAt has (if taken then Some (role, []) else None)
word_productive has role true = (refl, refl)
word_productive has role false = tt

skip_productive : (has : Membership) (depth : Option ℕ) → ProductiveAt has (skip_to depth)
skip_productive has None = tt
skip_productive has (Some depth) = (refl, refl)

pub after_productive : (has : Membership) (g : Grammar) (kind : ℕ) → stays_productive has g ≡ true → ProductiveAt has (after has g kind)
after_productive has Empty kind e = tt
after_productive has (Word class role) kind e = word_productive has role (has class kind)
after_productive has (Skip depth) kind e = skip_productive has (open_after depth kind)
after_productive has (Seq a b) kind e =
    let p = and_parts (stays_productive has a && stays_productive has b) (is_productive has b) e in
    let q = and_parts (stays_productive has a) (stays_productive has b) p.0 in
    seq_productive has b (after has a kind) (after has b kind) (is_nullable a) p.1 q.1 (after_productive has a kind q.0) (after_productive has b kind q.1)
after_productive has (Or a b) kind e =
    let q = and_parts (stays_productive has a) (stays_productive has b) e in
    or_productive has (after has a kind) (after has b kind) (after_productive has a kind q.0) (after_productive has b kind q.1)
after_productive has (Many a) kind e = many_productive has a (after has a kind) e (after_productive has a kind e)
