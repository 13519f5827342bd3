-- For a grammar that is ready, tokens have one reading: what `read_from` gives.
use Rattle.std.proofs.Common.{◌≡◌, ℕ, suc, Bool, true, false, ◌&&◌, ◌==◌, List, [], ◌∷◌, ◌++◌, length, Option, Some, None, All, refl, sym, ◌∙◌, ap, subst, if◌then◌else◌}
use Rattle.std.proofs.lemmas.List.Elements.{recursion_from_All}
use Rattle.std.specs.List.{AllByRecursion}
use Rattle.std.proofs.lemmas.Bool.{and_parts, eqb-true, eqb-false}
use Rattle.dm_grammar.specs.Grammar.{Grammar, Membership, unsupported}
use Rattle.dm_grammar.specs.Determinism.{is_nullable, Next, after, sequence, is_ll1, is_productive, stays_productive, no_kind, is_ready}
use Rattle.dm_grammar.specs.Sentence.{BeginsSentence, IsViablePrefix, ShowsUnsupported, GoesNowhere, MeetsUnsupported, IsFault, IsReading}
use Rattle.dm_grammar.specs.Reading.{Outcome, later, with_role, read_next, read_from}
use Rattle.dm_grammar.specs.declared.reader.Fault.{Fault}
use Rattle.dm_grammar.specs.declared.reader.Fault.TheVariants.{Syntax, Unsupported}
use Rattle.dm_grammar.proofs.Nullable.{spells_nullable}
use Rattle.dm_grammar.proofs.Derivative.{SoundAt, CompleteAt, KeepsAt, IsLl1, after_sound, after_complete, after_keeps}
use Rattle.dm_grammar.proofs.Productive.{ProductiveAt, after_productive}
use Rattle.dm_grammar.proofs.Tokens.{sentence_further, beginning_here, beginning_further, beginning_back, prefix_none, unsupported_here, unsupported_further, unsupported_back, unsupported_none}
use Rattle.dm_grammar.proofs.Readiness.{IsLl1-is_ll1}
use Rattle.dm_grammar.proofs.Exact.{IsKind, ready_sentence}

-- No token is read before the fault.

no_role : (has : Membership) (g : Grammar) (roles : List ℕ) → BeginsSentence has g [] roles → [] ≡ roles
no_role has g roles ([], more, e, q, supported, s) = q
no_role has g roles (letter ∷ letters, more, e, q, supported, s) = absurd cc

viable_here : (has : Membership) (g : Grammar) (kind : ℕ) (next : ℕ × List Grammar) → SoundAt has g kind (Some next) → (next.0 ≡ unsupported → ⊥) → is_productive has (sequence next.1) ≡ true → IsViablePrefix has g (kind ∷ [])
viable_here has g kind next sound known productive = (next.0 ∷ [], beginning_further has g kind next [] [] sound known (beginning_here has (sequence next.1) productive))

shown_role : (has : Membership) (g : Grammar) (kind : ℕ) (next : ℕ × List Grammar) → CompleteAt has g kind (Some next) → ShowsUnsupported has g [] kind → next.0 ≡ unsupported
shown_role has g kind next complete ([], more, e, supported, s) = (complete unsupported more s).0
shown_role has g kind next complete (letter ∷ letters, more, e, supported, s) = absurd cc

syntax_at : (roles : List ℕ) (a b : ℕ) → a ≡ b → (let one : Outcome = (roles, Some (Syntax a)) in one) ≡ (roles, Some (Syntax b))
syntax_at roles a b e = ap (λ (n : ℕ). let outcome : Outcome = (roles, Some (Syntax n)) in outcome) e

unsupported_at : (roles : List ℕ) (a b : ℕ) → a ≡ b → (let one : Outcome = (roles, Some (Unsupported a)) in one) ≡ (roles, Some (Unsupported b))
unsupported_at roles a b e = ap (λ (n : ℕ). let outcome : Outcome = (roles, Some (Unsupported n)) in outcome) e

stops_here : (has : Membership) (g : Grammar) (kind : ℕ) (next : Next) (kinds : List ℕ) (read : Grammar → Outcome) (fault : Fault) → SoundAt has g kind next → CompleteAt has g kind next → ProductiveAt has next → IsFault has g [] (kind ∷ kinds) fault
    → read_next next read ≡ ([], Some fault)
stops_here has g kind None kinds read (Syntax at) sound complete rest (len, nowhere) = syntax_at [] 0 at len
stops_here has g kind None kinds read (Unsupported at) sound complete rest (len, meets) = absurd (unsupported_none has g kind complete meets.1)
stops_here has g kind (Some next) kinds read (Syntax at) sound complete rest (len, nowhere) = by (next.0 == unsupported) refl where
  by : (b : Bool) → (next.0 == unsupported) ≡ b → (if b then ([], Some (Unsupported 0)) else with_role next.0 (read (sequence next.1))) ≡ ([], Some (Syntax at))
  by true e = absurd (nowhere.1 (unsupported_here has g kind next sound (eqb-true next.0 unsupported e) rest.0))
  by false e = absurd (nowhere.0 (viable_here has g kind next sound (eqb-false next.0 unsupported e) rest.0))
stops_here has g kind (Some next) kinds read (Unsupported at) sound complete rest (len, meets) = by (next.0 == unsupported) refl where
  by : (b : Bool) → (next.0 == unsupported) ≡ b → (if b then ([], Some (Unsupported 0)) else with_role next.0 (read (sequence next.1))) ≡ ([], Some (Unsupported at))
  by true e = unsupported_at [] 0 at len
  by false e = absurd (eqb-false next.0 unsupported e (shown_role has g kind next complete meets.1))

-- A token is read, and the fault comes behind it.

nowhere_back : (has : Membership) (g : Grammar) (kind : ℕ) (next : ℕ × List Grammar) (front rest : List ℕ) → SoundAt has g kind (Some next) → (next.0 ≡ unsupported → ⊥) → GoesNowhere has g (kind ∷ front) rest → GoesNowhere has (sequence next.1) front rest
nowhere_back has g kind next front [] sound known h = λ roles s. h (next.0 ∷ roles) (sentence_further has g kind next front roles sound known s)
nowhere_back has g kind next front (shown ∷ rest) sound known h =
    ((λ v. h.0 (next.0 ∷ v.0, beginning_further has g kind next (front ++ shown ∷ []) v.0 sound known v.1)), (λ u. h.1 (unsupported_further has g kind next front shown sound known u)))

meets_back : (has : Membership) (g : Grammar) (kind : ℕ) (next : ℕ × List Grammar) (front rest : List ℕ) → SoundAt has g kind (Some next) → CompleteAt has g kind (Some next) → (next.0 ≡ unsupported → ⊥) → MeetsUnsupported has g (kind ∷ front) rest
    → MeetsUnsupported has (sequence next.1) front rest
meets_back has g kind next front [] sound complete known h = h
meets_back has g kind next front (shown ∷ rest) sound complete known h =
    ((λ v. h.0 (next.0 ∷ v.0, beginning_further has g kind next (front ++ shown ∷ []) v.0 sound known v.1)), unsupported_back has g kind next front shown complete h.1)

-- what is read behind a token that is taken
further : (next : ℕ × List Grammar) (read : Grammar → Outcome) (roles others : List ℕ) (fault : Fault) → roles ≡ next.0 ∷ others → (next.0 ≡ unsupported → ⊥) → read (sequence next.1) ≡ (others, Some fault) → read_next (Some next) read ≡ (roles, later (Some fault))
further next read roles others fault q known h = by (next.0 == unsupported) refl where
  by : (b : Bool) → (next.0 == unsupported) ≡ b → (if b then ([], Some (Unsupported 0)) else with_role next.0 (read (sequence next.1))) ≡ (roles, later (Some fault))
  by true e = absurd (known (eqb-true next.0 unsupported e))
  by false e = ap (with_role next.0) h ∙ ap (λ (z : List ℕ). let outcome : Outcome = (z, later (Some fault)) in outcome) (sym q)

-- a fault is found in what is left
abbrev FindsFaults : Membership → List ℕ → Grammar → Outcome → Type 0
FindsFaults has kinds g outcome = (roles : List ℕ) (fault : Fault) → IsReading has g kinds roles (Some fault) → outcome ≡ (roles, Some fault)

abbrev FindsBehind : Membership → List ℕ → (Grammar → Outcome) → Next → Type 0
FindsBehind has kinds read None = Unit {0}
FindsBehind has kinds read (Some next) = FindsFaults has kinds (sequence next.1) (read (sequence next.1))

goes_on : (has : Membership) (g : Grammar) (kind : ℕ) (next : Next) (front rest kinds roles : List ℕ) (read : Grammar → Outcome) (fault : Fault) → SoundAt has g kind next → CompleteAt has g kind next → FindsBehind has kinds read next
    → kinds ≡ front ++ rest → BeginsSentence has g (kind ∷ front) roles → IsFault has g (kind ∷ front) rest fault → read_next next read ≡ (roles, Some fault)
goes_on has g kind None front rest kinds roles read fault sound complete finds e begins fails = absurd (prefix_none has g kind front complete (roles, begins))
goes_on has g kind (Some next) front rest kinds roles read (Syntax at) sound complete finds e begins (len, nowhere) =
    let back = beginning_back has g kind next front roles complete begins in
    further next read roles back.0 (Syntax (length front)) back.1 back.2 (finds back.0 (Syntax (length front)) (front, rest, e, back.3, (refl, nowhere_back has g kind next front rest sound back.2 nowhere)))
    ∙ syntax_at roles (suc (length front)) at len
goes_on has g kind (Some next) front rest kinds roles read (Unsupported at) sound complete finds e begins (len, meets) =
    let back = beginning_back has g kind next front roles complete begins in
    further next read roles back.0 (Unsupported (length front)) back.1 back.2 (finds back.0 (Unsupported (length front)) (front, rest, e, back.3, (refl, meets_back has g kind next front rest sound complete back.2 meets)))
    ∙ unsupported_at roles (suc (length front)) at len

finds_next : (has : Membership) (g : Grammar) (kind : ℕ) (next : Next) (kinds : List ℕ) (read : Grammar → Outcome) → SoundAt has g kind next → CompleteAt has g kind next → ProductiveAt has next → FindsBehind has kinds read next → FindsFaults has (kind ∷ kinds) g (read_next next read)
finds_next has g kind next kinds read sound complete productive finds roles fault ([], rest, e, begins, fails) =
    stops_here has g kind next kinds read fault sound complete productive (subst (λ (z : List ℕ). IsFault has g [] z fault) (sym e) fails) ∙ ap (λ (z : List ℕ). let outcome : Outcome = (z, Some fault) in outcome) (no_role has g roles begins)
finds_next has g kind next kinds read sound complete productive finds roles fault (f ∷ front, rest, e, begins, fails) =
    let head : f ≡ kind = cc in
    let tail : kinds ≡ front ++ rest = cc in
    goes_on has g kind next front rest kinds roles read fault sound complete finds tail
    (subst (λ (z : ℕ). BeginsSentence has g (z ∷ front) roles) head begins) (subst (λ (z : ℕ). IsFault has g (z ∷ front) rest fault) head fails)

-- No token is left.

finds_end : (has : Membership) (g : Grammar) (b : Bool) → is_nullable g ≡ b → FindsFaults has [] g (if b then ([], None) else ([], Some (Syntax 0)))
finds_end has g b n roles fault (f ∷ front, rest, e, begins, fails) = absurd cc
finds_end has g b n roles fault ([], r ∷ rest, e, begins, fails) = absurd cc
finds_end has g b n roles (Unsupported at) ([], [], e, begins, fails) = absurd fails.1
finds_end has g true n roles (Syntax at) ([], [], e, begins, fails) = absurd (fails.1 [] ([], refl, refl, tt, spells_nullable has g n))
finds_end has g false n roles (Syntax at) ([], [], e, begins, fails) = syntax_at [] 0 at fails.0 ∙ ap (λ (z : List ℕ). let outcome : Outcome = (z, Some (Syntax at)) in outcome) (no_role has g roles begins)

finds_behind : (has : Membership) (follow : ℕ → Bool) (kinds : List ℕ) (read : Grammar → Outcome) (next : Next) → KeepsAt has follow next → ProductiveAt has next
    → ((h : Grammar) → IsLl1 has h follow → stays_productive has h ≡ true → FindsFaults has kinds h (read h)) → FindsBehind has kinds read next
finds_behind has follow kinds read None keeps productive h = tt
finds_behind has follow kinds read (Some next) keeps productive h = h (sequence next.1) keeps productive.1

finds : (has : Membership) (follow : ℕ → Bool) (kinds : List ℕ) (g : Grammar) → AllByRecursion IsKind kinds → IsLl1 has g follow → stays_productive has g ≡ true → FindsFaults has kinds g (read_from has kinds g)
unfolding read_from
finds has follow [] g small ll1 stays = finds_end has g (is_nullable g) refl
finds has follow (kind ∷ kinds) g small ll1 stays =
    finds_next has g kind (after has g kind) kinds (read_from has kinds) (after_sound has g kind) (after_complete has g follow kind small.0 ll1) (after_productive has g kind stays)
    (finds_behind has follow kinds (read_from has kinds) (after has g kind) (after_keeps has g follow kind ll1) (after_productive has g kind stays) (λ h l p. finds has follow kinds h small.1 l p))

-- For a grammar that is ready, each reading is what reading gives.
pub ready_reading : (has : Membership) (g : Grammar) (kinds roles : List ℕ) (first : Option Fault) → All IsKind kinds → is_ready has g ≡ true → IsReading has g kinds roles first → read_from has kinds g ≡ (roles, first)
unfolding is_ready
ready_reading has g kinds roles None small e reading = ready_sentence has g kinds roles small e reading
ready_reading has g kinds roles (Some fault) small e reading =
    let parts = and_parts (is_ll1 has g no_kind) (is_productive has g && stays_productive has g) e in
    let productive = and_parts (is_productive has g) (stays_productive has g) parts.1 in
    finds has no_kind kinds g (recursion_from_All IsKind kinds small) (IsLl1-is_ll1 has g no_kind parts.0) productive.1 roles fault reading

-- For a grammar that is ready, tokens have one reading.
pub one_reading : (has : Membership) (g : Grammar) (kinds roles others : List ℕ) (first other : Option Fault) → All IsKind kinds → is_ready has g ≡ true → IsReading has g kinds roles first → IsReading has g kinds others other
    → (roles ≡ others) × (first ≡ other)
one_reading has g kinds roles others first other small e a b =
    let same : ◌≡◌ {A = Outcome} (roles, first) (others, other) = sym (ready_reading has g kinds roles first small e a) ∙ ready_reading has g kinds others other small e b in
    (ap (λ (o : Outcome). o.0) same, ap (λ (o : Outcome). o.1) same)
