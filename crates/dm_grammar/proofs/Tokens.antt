use Rattle.std.proofs.Common.{◌≡◌, ℕ, true, List, [], ◌∷◌, ◌++◌, Some, None, refl, sym, ◌∙◌, ap, subst}
use Rattle.dm_grammar.specs.Grammar.{Grammar, Membership, Letter, unsupported, Spells}
use Rattle.dm_grammar.specs.Determinism.{sequence, is_productive}
use Rattle.dm_grammar.specs.Sentence.{kinds_of, roles_of, IsSentence, BeginsSentence, IsViablePrefix, ShowsUnsupported, GoesNowhere, MeetsUnsupported}
use Rattle.dm_grammar.proofs.Derivative.{SoundAt, CompleteAt}
use Rattle.dm_grammar.proofs.Productive.{productive_spells}

-- Sentences, their beginnings and words that are not supported, one token further and one token back.

-- a letter whose kind is known
of_kind : (P : List Letter → Type 0) (kind : ℕ) (letter : Letter) (letters : List Letter) → letter.0 ≡ kind → P (letter ∷ letters) → P ((kind, letter.1) ∷ letters)
of_kind P kind letter letters e h = subst (λ (z : ℕ). P ((z, letter.1) ∷ letters)) e h

pub sentence_further : (has : Membership) (g : Grammar) (kind : ℕ) (next : ℕ × List Grammar) (kinds roles : List ℕ) → SoundAt has g kind (Some next) → (next.0 ≡ unsupported → ⊥) → IsSentence has (sequence next.1) kinds roles → IsSentence has g (kind ∷ kinds) (next.0 ∷ roles)
sentence_further has g kind next kinds roles sound known (letters, e, q, supported, s) =
    ((kind, next.0) ∷ letters, ap (λ (z : List ℕ). kind ∷ z) e, ap (λ (z : List ℕ). next.0 ∷ z) q, (known, supported), sound letters s)

pub sentence_back : (has : Membership) (g : Grammar) (kind : ℕ) (next : ℕ × List Grammar) (kinds roles : List ℕ) → CompleteAt has g kind (Some next) → IsSentence has g (kind ∷ kinds) roles → (rest : List ℕ) × (roles ≡ next.0 ∷ rest) × (next.0 ≡ unsupported → ⊥) × IsSentence has (sequence next.1) kinds rest
sentence_back has g kind next kinds roles complete ([], e, q, supported, s) = absurd cc
sentence_back has g kind next kinds roles complete (letter ∷ letters, e, q, supported, s) =
    let head : letter.0 ≡ kind = cc in
    let tail : kinds_of letters ≡ kinds = cc in
    let got = complete letter.1 letters (of_kind (Spells has g) kind letter letters head s) in
    (roles_of letters, sym q ∙ ap (λ (z : ℕ). z ∷ roles_of letters) (sym got.0), (λ p. supported.0 (sym got.0 ∙ p)), (letters, tail, refl, supported.1, got.1))

pub beginning_here : (has : Membership) (g : Grammar) → is_productive has g ≡ true → BeginsSentence has g [] []
beginning_here has g e = let x = productive_spells has g e in ([], x.0, refl, refl, x.1, x.2)

pub beginning_further : (has : Membership) (g : Grammar) (kind : ℕ) (next : ℕ × List Grammar) (kinds roles : List ℕ) → SoundAt has g kind (Some next) → (next.0 ≡ unsupported → ⊥) → BeginsSentence has (sequence next.1) kinds roles → BeginsSentence has g (kind ∷ kinds) (next.0 ∷ roles)
beginning_further has g kind next kinds roles sound known (letters, more, e, q, supported, s) =
    ((kind, next.0) ∷ letters, more, ap (λ (z : List ℕ). kind ∷ z) e, ap (λ (z : List ℕ). next.0 ∷ z) q, (known, supported), sound (letters ++ more) s)

pub beginning_back : (has : Membership) (g : Grammar) (kind : ℕ) (next : ℕ × List Grammar) (kinds roles : List ℕ) → CompleteAt has g kind (Some next) → BeginsSentence has g (kind ∷ kinds) roles → (rest : List ℕ) × (roles ≡ next.0 ∷ rest) × (next.0 ≡ unsupported → ⊥) × BeginsSentence has (sequence next.1) kinds rest
beginning_back has g kind next kinds roles complete ([], more, e, q, supported, s) = absurd cc
beginning_back has g kind next kinds roles complete (letter ∷ letters, more, e, q, supported, s) =
    let head : letter.0 ≡ kind = cc in
    let tail : kinds_of letters ≡ kinds = cc in
    let got = complete letter.1 (letters ++ more) (of_kind (Spells has g) kind letter (letters ++ more) head s) in
    (roles_of letters, sym q ∙ ap (λ (z : ℕ). z ∷ roles_of letters) (sym got.0), (λ p. supported.0 (sym got.0 ∙ p)), (letters, more, tail, refl, supported.1, got.1))

pub prefix_back : (has : Membership) (g : Grammar) (kind : ℕ) (next : ℕ × List Grammar) (kinds : List ℕ) → CompleteAt has g kind (Some next) → IsViablePrefix has g (kind ∷ kinds) → (next.0 ≡ unsupported → ⊥) × IsViablePrefix has (sequence next.1) kinds
prefix_back has g kind next kinds complete (roles, begins) =
    let back = beginning_back has g kind next kinds roles complete begins in (back.2, (back.0, back.3))

pub prefix_none : (has : Membership) (g : Grammar) (kind : ℕ) (kinds : List ℕ) → CompleteAt has g kind None → IsViablePrefix has g (kind ∷ kinds) → ⊥
prefix_none has g kind kinds complete (roles, ([], more, e, q, supported, s)) = absurd cc
prefix_none has g kind kinds complete (roles, (letter ∷ letters, more, e, q, supported, s)) =
    let head : letter.0 ≡ kind = cc in complete letter.1 (letters ++ more) (of_kind (Spells has g) kind letter (letters ++ more) head s)

pub unsupported_here : (has : Membership) (g : Grammar) (kind : ℕ) (next : ℕ × List Grammar) → SoundAt has g kind (Some next) → next.0 ≡ unsupported → is_productive has (sequence next.1) ≡ true → ShowsUnsupported has g [] kind
unsupported_here has g kind next sound p e =
    let x = productive_spells has (sequence next.1) e in
    ([], x.0, refl, tt, subst (λ (z : ℕ). Spells has g ((kind, z) ∷ x.0)) p (sound x.0 x.2))

pub unsupported_further : (has : Membership) (g : Grammar) (kind : ℕ) (next : ℕ × List Grammar) (kinds : List ℕ) (shown : ℕ) → SoundAt has g kind (Some next) → (next.0 ≡ unsupported → ⊥) → ShowsUnsupported has (sequence next.1) kinds shown → ShowsUnsupported has g (kind ∷ kinds) shown
unsupported_further has g kind next kinds shown sound known (letters, more, e, supported, s) =
    ((kind, next.0) ∷ letters, more, ap (λ (z : List ℕ). kind ∷ z) e, (known, supported), sound (letters ++ (shown, unsupported) ∷ more) s)

pub unsupported_back : (has : Membership) (g : Grammar) (kind : ℕ) (next : ℕ × List Grammar) (kinds : List ℕ) (shown : ℕ) → CompleteAt has g kind (Some next) → ShowsUnsupported has g (kind ∷ kinds) shown → ShowsUnsupported has (sequence next.1) kinds shown
unsupported_back has g kind next kinds shown complete ([], more, e, supported, s) = absurd cc
unsupported_back has g kind next kinds shown complete (letter ∷ letters, more, e, supported, s) =
    let head : letter.0 ≡ kind = cc in
    let tail : kinds_of letters ≡ kinds = cc in
    let got = complete letter.1 (letters ++ (shown, unsupported) ∷ more) (of_kind (Spells has g) kind letter (letters ++ (shown, unsupported) ∷ more) head s) in
    (letters, more, tail, supported.1, got.1)

pub unsupported_none : (has : Membership) (g : Grammar) (kind : ℕ) → CompleteAt has g kind None → ShowsUnsupported has g [] kind → ⊥
unsupported_none has g kind complete ([], more, e, supported, s) = complete unsupported more s
unsupported_none has g kind complete (letter ∷ letters, more, e, supported, s) = absurd cc

pub nowhere_further : (has : Membership) (g : Grammar) (kind : ℕ) (next : ℕ × List Grammar) (front rest : List ℕ) → CompleteAt has g kind (Some next) → GoesNowhere has (sequence next.1) front rest → GoesNowhere has g (kind ∷ front) rest
nowhere_further has g kind next front [] complete h = λ roles s. let back = sentence_back has g kind next front roles complete s in h back.0 back.3
nowhere_further has g kind next front (shown ∷ rest) complete h =
    ((λ s. h.0 (prefix_back has g kind next (front ++ shown ∷ []) complete s).1), (λ s. h.1 (unsupported_back has g kind next front shown complete s)))

pub meets_further : (has : Membership) (g : Grammar) (kind : ℕ) (next : ℕ × List Grammar) (front rest : List ℕ) → SoundAt has g kind (Some next) → CompleteAt has g kind (Some next) → (next.0 ≡ unsupported → ⊥) → MeetsUnsupported has (sequence next.1) front rest → MeetsUnsupported has g (kind ∷ front) rest
meets_further has g kind next front [] sound complete known h = h
meets_further has g kind next front (shown ∷ rest) sound complete known h =
    ((λ s. h.0 (prefix_back has g kind next (front ++ shown ∷ []) complete s).1), unsupported_further has g kind next front shown sound known h.1)
