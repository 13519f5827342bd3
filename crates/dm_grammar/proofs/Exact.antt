use Rattle.std.proofs.Common.{◌≡◌, ℕ, suc, Bool, true, false, ◌&&◌, ◌==◌, List, [], ◌∷◌, Option, Some, None, All, refl, sym, ◌∙◌, ap, subst, if◌then◌else◌, ◌<◌}
use Rattle.std.proofs.lemmas.List.{append-nil}
use Rattle.std.proofs.lemmas.List.Elements.{recursion_from_All}
use Rattle.std.specs.List.{AllByRecursion}
use Rattle.std.proofs.lemmas.Bool.{and_parts, false≢true, eqb-true, eqb-false}
use Rattle.dm_grammar.specs.Grammar.{Grammar, Membership, Letter, unsupported, Spells, kind_count}
use Rattle.dm_grammar.specs.Determinism.{is_nullable, Next, after, sequence, is_ll1, is_productive, stays_productive, no_kind, is_ready}
use Rattle.dm_grammar.specs.Sentence.{AllSupported, IsSentence, IsReading}
use Rattle.dm_grammar.specs.Reading.{Outcome, with_role, read_next, read_from}
use Rattle.dm_grammar.specs.declared.reader.Fault.{Fault}
use Rattle.dm_grammar.specs.declared.reader.Fault.TheVariants.{Syntax, Unsupported}
use Rattle.dm_grammar.proofs.Nullable.{spells_nullable, nullable_from_spells}
use Rattle.dm_grammar.proofs.Derivative.{SoundAt, CompleteAt, KeepsAt, IsLl1, after_sound, after_complete, after_keeps}
use Rattle.dm_grammar.proofs.Productive.{ProductiveAt, after_productive}
use Rattle.dm_grammar.proofs.Tokens.{sentence_further, sentence_back, beginning_here, beginning_further, prefix_back, prefix_none, unsupported_here, unsupported_none, nowhere_further, meets_further}
use Rattle.dm_grammar.proofs.Readiness.{IsLl1-is_ll1}

-- What `read_from` gives is a reading; and a sentence has no other.

abbrev pub IsKind : ℕ → Type 0
IsKind kind = kind < kind_count

abbrev pub Reads : Membership → Grammar → List ℕ → Outcome → Type 0
Reads has g kinds outcome = IsReading has g kinds outcome.0 outcome.1

reads_further : (has : Membership) (g : Grammar) (kind : ℕ) (next : ℕ × List Grammar) (kinds roles : List ℕ) (fault : Option Fault) → SoundAt has g kind (Some next) → CompleteAt has g kind (Some next) → (next.0 ≡ unsupported → ⊥) → Reads has (sequence next.1) kinds (roles, fault) → Reads has g (kind ∷ kinds) (with_role next.0 (roles, fault))
reads_further has g kind next kinds roles None sound complete known h = sentence_further has g kind next kinds roles sound known h
reads_further has g kind next kinds roles (Some (Syntax at)) sound complete known (front, rest, e, begins, (len, nowhere)) =
    (kind ∷ front, rest, ap (λ (z : List ℕ). kind ∷ z) e, beginning_further has g kind next front roles sound known begins, (ap suc len, nowhere_further has g kind next front rest complete nowhere))
reads_further has g kind next kinds roles (Some (Unsupported at)) sound complete known (front, rest, e, begins, (len, meets)) =
    (kind ∷ front, rest, ap (λ (z : List ℕ). kind ∷ z) e, beginning_further has g kind next front roles sound known begins, (ap suc len, meets_further has g kind next front rest sound complete known meets))

abbrev pub ReadsRest : Membership → List ℕ → (Grammar → Outcome) → Next → Type 0
ReadsRest has kinds read None = Unit {0}
ReadsRest has kinds read (Some next) = Reads has (sequence next.1) kinds (read (sequence next.1))

reads_next : (has : Membership) (g : Grammar) (kind : ℕ) (next : Next) (kinds : List ℕ) (read : Grammar → Outcome) → is_productive has g ≡ true → SoundAt has g kind next → CompleteAt has g kind next → ProductiveAt has next → ReadsRest has kinds read next → Reads has g (kind ∷ kinds) (read_next next read)
reads_next has g kind None kinds read productive sound complete rest reads_rest =
    ([], kind ∷ kinds, refl, beginning_here has g productive, (refl, ((λ s. prefix_none has g kind [] complete s), unsupported_none has g kind complete)))
reads_next has g kind (Some next) kinds read productive sound complete rest reads_rest = by_role (next.0 == unsupported) refl
  where
    by_role : (b : Bool) → (next.0 == unsupported) ≡ b → Reads has g (kind ∷ kinds) (if b then ([], Some (Unsupported 0)) else with_role next.0 (read (sequence next.1)))
    by_role true e = (
      [],
      kind ∷ kinds,
      refl,
      beginning_here has g productive,
      (refl, ((λ s. (prefix_back has g kind next [] complete s).0 (eqb-true next.0 unsupported e)), unsupported_here has g kind next sound (eqb-true next.0 unsupported e) rest.0)),
    )
    by_role false e = reads_further has g kind next kinds (read (sequence next.1)).0 (read (sequence next.1)).1 sound complete (eqb-false next.0 unsupported e) reads_rest

reads_rest : (has : Membership) (follow : ℕ → Bool) (kinds : List ℕ) (read : Grammar → Outcome) (next : Next) → KeepsAt has follow next → ProductiveAt has next → ((h : Grammar) → IsLl1 has h follow → is_productive has h ≡ true → stays_productive has h ≡ true → Reads has h kinds (read h)) → ReadsRest has kinds read next
reads_rest has follow kinds read None keeps rest h = tt
reads_rest has follow kinds read (Some next) keeps rest h = h (sequence next.1) keeps rest.0 rest.1

reads : (has : Membership) (follow : ℕ → Bool) (kinds : List ℕ) (g : Grammar) → AllByRecursion IsKind kinds → IsLl1 has g follow → is_productive has g ≡ true → stays_productive has g ≡ true → Reads has g kinds (read_from has kinds g)
unfolding read_from
reads has follow [] g small ll1 productive stays = at_end (is_nullable g) refl
  where
    at_end : (b : Bool) → is_nullable g ≡ b → Reads has g [] (if b then ([], None) else ([], Some (Syntax 0)))
    at_end true e = ([], refl, refl, tt, spells_nullable has g e)
    at_end false e = ([], [], refl, beginning_here has g productive, (refl, no))
      where
        no : (roles : List ℕ) → IsSentence has g [] roles → ⊥
        no roles ([], p, q, supported, s) = false≢true (sym e ∙ nullable_from_spells has g [] refl s)
        no roles (letter ∷ letters, p, q, supported, s) = absurd cc
reads has follow (kind ∷ kinds) g small ll1 productive stays =
    reads_next has g kind (after has g kind) kinds (read_from has kinds) productive (after_sound has g kind) (after_complete has g follow kind small.0 ll1) (after_productive has g kind stays)
    (reads_rest has follow kinds (read_from has kinds) (after has g kind) (after_keeps has g follow kind ll1) (after_productive has g kind stays) (λ h l p s. reads has follow kinds h small.1 l p s))

-- a sentence is read with its roles
abbrev pub ReadsSentences : Membership → List ℕ → (Grammar → Outcome) → Next → Type 0
ReadsSentences has kinds read None = Unit {0}
ReadsSentences has kinds read (Some next) = (roles : List ℕ) → IsSentence has (sequence next.1) kinds roles → read (sequence next.1) ≡ (roles, None)

sentence_next : (has : Membership) (g : Grammar) (kind : ℕ) (next : Next) (kinds roles : List ℕ) (read : Grammar → Outcome) → CompleteAt has g kind next → ReadsSentences has kinds read next → IsSentence has g (kind ∷ kinds) roles → read_next next read ≡ (roles, None)
sentence_next has g kind None kinds roles read complete rest (letters, e, q, supported, s) =
    absurd (prefix_none has g kind kinds complete (roles, (letters, [], e, q, subst (λ (z : List Letter). AllSupported z) (sym (append-nil letters)) supported, subst (λ (z : List Letter). Spells has g z) (sym (append-nil letters)) s)))
sentence_next has g kind (Some next) kinds roles read complete rest s =
    let back = sentence_back has g kind next kinds roles complete s in
    by_role (next.0 == unsupported) refl back.0 back.1 back.2 (rest back.0 back.3)
  where
    by_role : (b : Bool) → (next.0 == unsupported) ≡ b → (others : List ℕ) → roles ≡ next.0 ∷ others → (next.0 ≡ unsupported → ⊥) → read (sequence next.1) ≡ (others, None) → (if b then ([], Some (Unsupported 0)) else with_role next.0 (read (sequence next.1))) ≡ (roles, None)
    by_role true e others q known h = absurd (known (eqb-true next.0 unsupported e))
    by_role false e others q known h = ap (with_role next.0) h ∙ ap (λ (z : List ℕ). let outcome : Outcome = (z, None) in outcome) (sym q)

sentences_rest : (has : Membership) (follow : ℕ → Bool) (kinds : List ℕ) (read : Grammar → Outcome) (next : Next) → KeepsAt has follow next → ((h : Grammar) → IsLl1 has h follow → (roles : List ℕ) → IsSentence has h kinds roles → read h ≡ (roles, None)) → ReadsSentences has kinds read next
sentences_rest has follow kinds read None keeps h = tt
sentences_rest has follow kinds read (Some next) keeps h = h (sequence next.1) keeps

sentence_reads : (has : Membership) (follow : ℕ → Bool) (kinds : List ℕ) (g : Grammar) → AllByRecursion IsKind kinds → IsLl1 has g follow → (roles : List ℕ) → IsSentence has g kinds roles → read_from has kinds g ≡ (roles, None)
unfolding read_from
sentence_reads has follow [] g small ll1 roles ([], e, q, supported, s) =
    ap (λ (b : Bool). let outcome : Outcome = if b then ([], None) else ([], Some (Syntax 0)) in outcome) (nullable_from_spells has g [] refl s) ∙ ap (λ (z : List ℕ). let outcome : Outcome = (z, None) in outcome) q
sentence_reads has follow [] g small ll1 roles (letter ∷ letters, e, q, supported, s) = absurd cc
sentence_reads has follow (kind ∷ kinds) g small ll1 roles s =
    sentence_next has g kind (after has g kind) kinds roles (read_from has kinds) (after_complete has g follow kind small.0 ll1)
    (sentences_rest has follow kinds (read_from has kinds) (after has g kind) (after_keeps has g follow kind ll1) (λ h l rs r. sentence_reads has follow kinds h small.1 l rs r)) s

-- For a grammar that is ready, what reading gives is a reading.
pub ready_reads : (has : Membership) (g : Grammar) (kinds : List ℕ) → All IsKind kinds → is_ready has g ≡ true → Reads has g kinds (read_from has kinds g)
unfolding is_ready
ready_reads has g kinds small e =
    let parts = and_parts (is_ll1 has g no_kind) (is_productive has g && stays_productive has g) e in
    let productive = and_parts (is_productive has g) (stays_productive has g) parts.1 in
    reads has no_kind kinds g (recursion_from_All IsKind kinds small) (IsLl1-is_ll1 has g no_kind parts.0) productive.0 productive.1

-- For a grammar that is ready, a sentence is read with its roles, so it has no others.
pub ready_sentence : (has : Membership) (g : Grammar) (kinds roles : List ℕ) → All IsKind kinds → is_ready has g ≡ true → IsSentence has g kinds roles → read_from has kinds g ≡ (roles, None)
unfolding is_ready
ready_sentence has g kinds roles small e s =
    let parts = and_parts (is_ll1 has g no_kind) (is_productive has g && stays_productive has g) e in
    sentence_reads has no_kind kinds g (recursion_from_All IsKind kinds small) (IsLl1-is_ll1 has g no_kind parts.0) roles s
