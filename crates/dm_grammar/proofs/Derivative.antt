use Rattle.std.proofs.Common.{◌≡◌, ℕ, suc, zero, Bool, true, false, ◌&&◌, List, [], ◌∷◌, ◌++◌, Option, Some, None, is_some, inl, inr, refl, sym, ◌∙◌, ap, subst, if◌then◌else◌, ◌<◌}
use Rattle.std.proofs.lemmas.Bool.{and_parts, and_from, or_left, or_right, false≢true}
use Rattle.dm_grammar.specs.Grammar.{Grammar, Empty, Word, Skip, Seq, Or, Many, Membership, Letter, open_after, Closes, Repeats, Spells, kind_count}
use Rattle.dm_grammar.specs.Determinism.{is_nullable, Next, with_rest, or_else, skip_to, after, sequence, first, follow_before}
use Rattle.dm_grammar.proofs.Nullable.{spells_nullable, nullable_from_spells}

-- the two sets of kinds have none in common
abbrev pub Disjoint : (ℕ → Bool) → (ℕ → Bool) → Type 0
Disjoint one other = (kind : ℕ) → kind < kind_count → one kind ≡ true → other kind ≡ true → ⊥

-- what `is_ll1` tests
abbrev pub IsLl1 : Membership → Grammar → (ℕ → Bool) → Type 0
IsLl1 has Empty follow = Unit {0}
IsLl1 has (Word class role) follow = Unit {0}
IsLl1 has (Skip depth) follow = Disjoint (first has (Skip 0)) follow
IsLl1 has (Seq a b) follow = IsLl1 has a (follow_before has b follow) × IsLl1 has b follow
IsLl1 has (Or a b) follow = Disjoint (first has a) (first has b) × (is_nullable (Or a b) ≡ true → Disjoint (first has (Or a b)) follow) × IsLl1 has a follow × IsLl1 has b follow
IsLl1 has (Many a) follow = Disjoint (first has (Many a)) follow × IsLl1 has a (follow_before has (Many a) follow)

-- the token, and what is spelled by what is left behind it, are spelled by the whole
abbrev pub SoundAt : Membership → Grammar → ℕ → Next → Type 0
SoundAt has g kind None = Unit {0}
SoundAt has g kind (Some next) = (letters : List Letter) → Spells has (sequence next.1) letters → Spells has g ((kind, next.0) ∷ letters)

-- the whole spells nothing else that begins with the token
abbrev pub CompleteAt : Membership → Grammar → ℕ → Next → Type 0
CompleteAt has g kind None = (role : ℕ) (letters : List Letter) → Spells has g ((kind, role) ∷ letters) → ⊥
CompleteAt has g kind (Some next) = (role : ℕ) (letters : List Letter) → Spells has g ((kind, role) ∷ letters) → (next.0 ≡ role) × Spells has (sequence next.1) letters

-- what is left is LL(1) too
abbrev pub KeepsAt : Membership → (ℕ → Bool) → Next → Type 0
KeepsAt has follow None = Unit {0}
KeepsAt has follow (Some next) = IsLl1 has (sequence next.1) follow

-- soundness, of each constructor over what its parts give
seq_sound : (has : Membership) (a b : Grammar) (kind : ℕ) (next_a next_b : Next) (nullable : Bool) → (nullable ≡ true → Spells has a []) → SoundAt has a kind next_a → SoundAt has b kind next_b → SoundAt has (Seq a b) kind (or_else (with_rest b next_a) (if nullable then next_b else None))
seq_sound has a b kind (Some next) next_b nullable h sa sb = λ letters (front, back, e, spelled_front, s). ((kind, next.0) ∷ front, back, ap (λ (z : List Letter). (kind, next.0) ∷ z) e, sa front spelled_front, s)
seq_sound has a b kind None (Some next) true h sa sb = λ letters s. ([], (kind, next.0) ∷ letters, refl, h refl, sb letters s)
seq_sound has a b kind None None true h sa sb = tt
seq_sound has a b kind None next_b false h sa sb = tt

or_sound : (has : Membership) (a b : Grammar) (kind : ℕ) (next_a next_b : Next) → SoundAt has a kind next_a → SoundAt has b kind next_b → SoundAt has (Or a b) kind (or_else next_a next_b)
or_sound has a b kind (Some next) next_b sa sb = λ letters s. inl (sa letters s)
or_sound has a b kind None (Some next) sa sb = λ letters s. inr (sb letters s)
or_sound has a b kind None None sa sb = tt

many_sound : (has : Membership) (a : Grammar) (kind : ℕ) (next_a : Next) → SoundAt has a kind next_a → SoundAt has (Many a) kind (with_rest (Many a) next_a)
many_sound has a kind None sa = tt
many_sound has a kind (Some next) sa = λ letters (front, back, e, spelled_front, (count, repeats)). (suc count, ((kind, next.0) ∷ front, back, ap (λ (z : List Letter). (kind, next.0) ∷ z) e, sa front spelled_front, repeats))

word_sound : (has : Membership) (class role kind : ℕ) (b : Bool) → has class kind ≡ b → SoundAt has (Word class role) kind (if b then Some (role, []) else None)
word_sound has class role kind true h = λ letters e. (kind, h, ap (λ (z : List Letter). (kind, role) ∷ z) e)
word_sound has class role kind false h = tt

skip_sound : (has : Membership) (depth kind : ℕ) (o : Option ℕ) → open_after depth kind ≡ o → SoundAt has (Skip depth) kind (skip_to o)
skip_sound has depth kind None h = tt
skip_sound has depth kind (Some deeper) h = λ letters (front, back, e, spelled_front, s). (deeper, h, refl, subst (λ (z : List Letter). Closes deeper z) (sym (ap (λ (z : List Letter). z ++ back) spelled_front) ∙ sym e) s)

pub after_sound : (has : Membership) (g : Grammar) (kind : ℕ) → SoundAt has g kind (after has g kind)
after_sound has Empty kind = tt
after_sound has (Word class role) kind = word_sound has class role kind (has class kind) refl
after_sound has (Skip depth) kind = skip_sound has depth kind (open_after depth kind) refl
after_sound has (Seq a b) kind = seq_sound has a b kind (after has a kind) (after has b kind) (is_nullable a) (spells_nullable has a) (after_sound has a kind) (after_sound has b kind)
after_sound has (Or a b) kind = or_sound has a b kind (after has a kind) (after has b kind) (after_sound has a kind) (after_sound has b kind)
after_sound has (Many a) kind = many_sound has a kind (after has a kind) (after_sound has a kind)

-- completeness: the whole spells nothing else
some_from : (has : Membership) (g : Grammar) (kind role : ℕ) (next : Next) (letters : List Letter) → CompleteAt has g kind next → Spells has g ((kind, role) ∷ letters) → is_some next ≡ true
some_from has g kind role None letters h s = absurd (h role letters s)
some_from has g kind role (Some next) letters h s = refl

seq_some : (has : Membership) (a b : Grammar) (kind : ℕ) (next : ℕ × List Grammar) (next_b : Next) (nullable : Bool) (front back : List Letter) → ((letters : List Letter) → letters ≡ [] → Spells has a letters → nullable ≡ true) → (nullable ≡ true → is_some next_b ≡ true → ⊥) → CompleteAt has a kind (Some next) → CompleteAt has b kind next_b → (role : ℕ) (letters : List Letter) → (kind, role) ∷ letters ≡ front ++ back → Spells has a front → Spells has b back → (next.0 ≡ role) × Spells has (Seq (sequence next.1) b) letters
seq_some has a b kind next next_b nullable [] back h disjoint complete_a complete_b role letters e sa sb =
    absurd (disjoint (h [] refl sa) (some_from has b kind role next_b letters complete_b (subst (λ (z : List Letter). Spells has b z) (sym e) sb)))
seq_some has a b kind next next_b nullable (letter ∷ front) back h disjoint complete_a complete_b role letters e sa sb =
    let head : letter ≡ (kind, role) = cc in
    let tail : letters ≡ front ++ back = cc in
    let got : (next.0 ≡ role) × Spells has (sequence next.1) front = complete_a role front (subst (λ (z : Letter). Spells has a (z ∷ front)) head sa) in
    (got.0, (front, back, tail, got.1, sb))

seq_none : (has : Membership) (a b : Grammar) (kind : ℕ) (next_b : Next) (nullable : Bool) (front back : List Letter) → ((letters : List Letter) → letters ≡ [] → Spells has a letters → nullable ≡ true) → CompleteAt has a kind None → (role : ℕ) (letters : List Letter) → (kind, role) ∷ letters ≡ front ++ back → Spells has a front → Spells has b back → (nullable ≡ true) × Spells has b ((kind, role) ∷ letters)
seq_none has a b kind next_b nullable [] back h complete_a role letters e sa sb = (h [] refl sa, subst (λ (z : List Letter). Spells has b z) (sym e) sb)
seq_none has a b kind next_b nullable (letter ∷ front) back h complete_a role letters e sa sb =
    let head : letter ≡ (kind, role) = cc in
    absurd (complete_a role front (subst (λ (z : Letter). Spells has a (z ∷ front)) head sa))

seq_complete : (has : Membership) (a b : Grammar) (kind : ℕ) (next_a next_b : Next) (nullable : Bool) → ((letters : List Letter) → letters ≡ [] → Spells has a letters → nullable ≡ true) → (nullable ≡ true → is_some next_a ≡ true → is_some next_b ≡ true → ⊥) → CompleteAt has a kind next_a → CompleteAt has b kind next_b → CompleteAt has (Seq a b) kind (or_else (with_rest b next_a) (if nullable then next_b else None))
seq_complete has a b kind (Some next) next_b nullable h disjoint complete_a complete_b = λ role letters (front, back, e, sa, sb). seq_some has a b kind next next_b nullable front back h (λ p. disjoint p refl) complete_a complete_b role letters e sa sb
seq_complete has a b kind None (Some next) true h disjoint complete_a complete_b = λ role letters (front, back, e, sa, sb). complete_b role letters (seq_none has a b kind (Some next) true front back h complete_a role letters e sa sb).1
seq_complete has a b kind None None true h disjoint complete_a complete_b = λ role letters (front, back, e, sa, sb). complete_b role letters (seq_none has a b kind None true front back h complete_a role letters e sa sb).1
seq_complete has a b kind None next_b false h disjoint complete_a complete_b = λ role letters (front, back, e, sa, sb). false≢true (seq_none has a b kind next_b false front back h complete_a role letters e sa sb).0

or_complete : (has : Membership) (a b : Grammar) (kind : ℕ) (next_a next_b : Next) → (is_some next_a ≡ true → is_some next_b ≡ true → ⊥) → CompleteAt has a kind next_a → CompleteAt has b kind next_b → CompleteAt has (Or a b) kind (or_else next_a next_b)
or_complete has a b kind (Some next) next_b disjoint complete_a complete_b = λ role letters s. elim s [ inl h ↦ complete_a role letters h | inr h ↦ absurd (disjoint refl (some_from has b kind role next_b letters complete_b h)) ]
or_complete has a b kind None (Some next) disjoint complete_a complete_b = λ role letters s. elim s [ inl h ↦ absurd (complete_a role letters h) | inr h ↦ complete_b role letters h ]
or_complete has a b kind None None disjoint complete_a complete_b = λ role letters s. elim s [ inl h ↦ complete_a role letters h | inr h ↦ complete_b role letters h ]

repeats_some : (has : Membership) (a : Grammar) (kind : ℕ) (next : ℕ × List Grammar) → CompleteAt has a kind (Some next) → (count : ℕ) (all : List Letter) (role : ℕ) (letters : List Letter) → all ≡ (kind, role) ∷ letters → Repeats (Spells has a) count all → (next.0 ≡ role) × Spells has (Seq (sequence next.1) (Many a)) letters
repeats_some has a kind next complete_a zero all role letters e repeats = absurd cc
repeats_some has a kind next complete_a (suc count) all role letters e ([], back, q, s, repeats) = repeats_some has a kind next complete_a count back role letters (sym q ∙ e) repeats
repeats_some has a kind next complete_a (suc count) all role letters e (letter ∷ front, back, q, s, repeats) =
    let head : letter ≡ (kind, role) = cc in
    let tail : letters ≡ front ++ back = cc in
    let got : (next.0 ≡ role) × Spells has (sequence next.1) front = complete_a role front (subst (λ (z : Letter). Spells has a (z ∷ front)) head s) in
    (got.0, (front, back, tail, got.1, (count, repeats)))

repeats_none : (has : Membership) (a : Grammar) (kind : ℕ) → CompleteAt has a kind None → (count : ℕ) (all : List Letter) (role : ℕ) (letters : List Letter) → all ≡ (kind, role) ∷ letters → Repeats (Spells has a) count all → ⊥
repeats_none has a kind complete_a zero all role letters e repeats = absurd cc
repeats_none has a kind complete_a (suc count) all role letters e ([], back, q, s, repeats) = repeats_none has a kind complete_a count back role letters (sym q ∙ e) repeats
repeats_none has a kind complete_a (suc count) all role letters e (letter ∷ front, back, q, s, repeats) =
    let head : letter ≡ (kind, role) = cc in
    complete_a role front (subst (λ (z : Letter). Spells has a (z ∷ front)) head s)

many_complete : (has : Membership) (a : Grammar) (kind : ℕ) (next_a : Next) → CompleteAt has a kind next_a → CompleteAt has (Many a) kind (with_rest (Many a) next_a)
many_complete has a kind None complete_a = λ role letters (count, repeats). repeats_none has a kind complete_a count ((kind, role) ∷ letters) role letters refl repeats
many_complete has a kind (Some next) complete_a = λ role letters (count, repeats). repeats_some has a kind next complete_a count ((kind, role) ∷ letters) role letters refl repeats

word_complete : (has : Membership) (class own kind : ℕ) (b : Bool) → has class kind ≡ b → CompleteAt has (Word class own) kind (if b then Some (own, []) else None)
word_complete has class own kind true h = λ role letters (taken, q, e). let p : ◌≡◌ {A = Letter} (kind, role) (taken, own) = cc in let y : letters ≡ [] = cc in (sym (ap (λ (z : Letter). z.1) p), y)
word_complete has class own kind false h = λ role letters (taken, q, e). let p : ◌≡◌ {A = Letter} (kind, role) (taken, own) = cc in false≢true (sym h ∙ ap (λ (z : Letter). has class z.0) p ∙ q)

skip_complete : (has : Membership) (depth kind : ℕ) (o : Option ℕ) → open_after depth kind ≡ o → CompleteAt has (Skip depth) kind (skip_to o)
skip_complete has depth kind None h = λ role letters (other, q, e, s). absurd cc
skip_complete has depth kind (Some deeper) h = λ role letters (other, q, e, s). let x : other ≡ deeper = cc in (sym e, ([], letters, refl, refl, subst (λ (z : ℕ). Closes z letters) x s))

-- where an LL(1) grammar may be empty, its first kinds are none of those that may stand behind it
pub IsLl1-first_disjoint : (has : Membership) (g : Grammar) (follow : ℕ → Bool) → IsLl1 has g follow → is_nullable g ≡ true → Disjoint (first has g) follow
IsLl1-first_disjoint has Empty follow d e = λ kind low p q. false≢true p
IsLl1-first_disjoint has (Word class role) follow d e = absurd (false≢true e)
IsLl1-first_disjoint has (Skip zero) follow d e = d
IsLl1-first_disjoint has (Skip (suc depth)) follow d e = absurd (false≢true e)
IsLl1-first_disjoint has (Seq a b) follow (ll1_a, ll1_b) e = λ kind low p q.
    let ab = and_parts (is_nullable a) (is_nullable b) e in
    calm_seq has a b kind (after has a kind) (after has b kind) (is_nullable a) p
    (λ h. IsLl1-first_disjoint has a (follow_before has b follow) ll1_a ab.0 kind low h (or_right (first has b kind) (is_nullable b && follow kind) (and_from (is_nullable b) (follow kind) ab.1 q)))
    (λ h. IsLl1-first_disjoint has b follow ll1_b ab.1 kind low h q)
  where
    calm_seq : (has : Membership) (a b : Grammar) (kind : ℕ) (next_a next_b : Next) (nullable : Bool) → is_some (or_else (with_rest b next_a) (if nullable then next_b else None)) ≡ true → (is_some next_a ≡ true → ⊥) → (is_some next_b ≡ true → ⊥) → ⊥
    calm_seq has a b kind (Some next) next_b nullable p x y = x refl
    calm_seq has a b kind None next_b true p x y = y p
    calm_seq has a b kind None next_b false p x y = false≢true p
IsLl1-first_disjoint has (Or a b) follow (disjoint, d, ll1_a, ll1_b) e = d e
IsLl1-first_disjoint has (Many a) follow (d, ll1_a) e = d

pub after_complete : (has : Membership) (g : Grammar) (follow : ℕ → Bool) (kind : ℕ) → kind < kind_count → IsLl1 has g follow → CompleteAt has g kind (after has g kind)
after_complete has Empty follow kind low d = λ role letters e. absurd cc
after_complete has (Word class role) follow kind low d = word_complete has class role kind (has class kind) refl
after_complete has (Skip depth) follow kind low d = skip_complete has depth kind (open_after depth kind) refl
after_complete has (Seq a b) follow kind low (ll1_a, ll1_b) =
    seq_complete has a b kind (after has a kind) (after has b kind) (is_nullable a) (nullable_from_spells has a)
    (λ e p q. IsLl1-first_disjoint has a (follow_before has b follow) ll1_a e kind low p (or_left (first has b kind) (is_nullable b && follow kind) q))
    (after_complete has a (follow_before has b follow) kind low ll1_a) (after_complete has b follow kind low ll1_b)
after_complete has (Or a b) follow kind low (disjoint, d, ll1_a, ll1_b) = or_complete has a b kind (after has a kind) (after has b kind) (disjoint kind low) (after_complete has a follow kind low ll1_a) (after_complete has b follow kind low ll1_b)
after_complete has (Many a) follow kind low (d, ll1_a) = many_complete has a kind (after has a kind) (after_complete has a (follow_before has (Many a) follow) kind low ll1_a)

-- what is left of an LL(1) grammar is LL(1)
seq_keeps : (has : Membership) (a b : Grammar) (follow : ℕ → Bool) (next_a next_b : Next) (nullable : Bool) → IsLl1 has b follow → KeepsAt has (follow_before has b follow) next_a → KeepsAt has follow next_b → KeepsAt has follow (or_else (with_rest b next_a) (if nullable then next_b else None))
seq_keeps has a b follow (Some next) next_b nullable ll1_b keeps_a keeps_b = (keeps_a, ll1_b)
seq_keeps has a b follow None next_b true ll1_b keeps_a keeps_b = keeps_b
seq_keeps has a b follow None next_b false ll1_b keeps_a keeps_b = tt

or_keeps : (has : Membership) (follow : ℕ → Bool) (next_a next_b : Next) → KeepsAt has follow next_a → KeepsAt has follow next_b → KeepsAt has follow (or_else next_a next_b)
or_keeps has follow (Some next) next_b keeps_a keeps_b = keeps_a
or_keeps has follow None next_b keeps_a keeps_b = keeps_b

many_keeps : (has : Membership) (a : Grammar) (follow : ℕ → Bool) (next_a : Next) → IsLl1 has (Many a) follow → KeepsAt has (follow_before has (Many a) follow) next_a → KeepsAt has follow (with_rest (Many a) next_a)
many_keeps has a follow None d keeps_a = tt
many_keeps has a follow (Some next) d keeps_a = (keeps_a, d)

word_keeps : (has : Membership) (role : ℕ) (follow : ℕ → Bool) (b : Bool) → KeepsAt has follow (if b then Some (role, []) else None)
word_keeps has role follow true = tt
word_keeps has role follow false = tt

skip_keeps : (has : Membership) (follow : ℕ → Bool) (o : Option ℕ) → Disjoint (first has (Skip 0)) follow → KeepsAt has follow (skip_to o)
skip_keeps has follow None d = tt
skip_keeps has follow (Some deeper) d = (tt, d)

pub after_keeps : (has : Membership) (g : Grammar) (follow : ℕ → Bool) (kind : ℕ) → IsLl1 has g follow → KeepsAt has follow (after has g kind)
after_keeps has Empty follow kind d = tt
after_keeps has (Word class role) follow kind d = word_keeps has role follow (has class kind)
after_keeps has (Skip depth) follow kind d = skip_keeps has follow (open_after depth kind) d
after_keeps has (Seq a b) follow kind (ll1_a, ll1_b) = seq_keeps has a b follow (after has a kind) (after has b kind) (is_nullable a) ll1_b (after_keeps has a (follow_before has b follow) kind ll1_a) (after_keeps has b follow kind ll1_b)
after_keeps has (Or a b) follow kind (disjoint, d, ll1_a, ll1_b) = or_keeps has follow (after has a kind) (after has b kind) (after_keeps has a follow kind ll1_a) (after_keeps has b follow kind ll1_b)
after_keeps has (Many a) follow kind (d, ll1_a) = many_keeps has a follow (after has a kind) (d, ll1_a) (after_keeps has a (follow_before has (Many a) follow) kind ll1_a)
