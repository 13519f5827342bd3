-- What a grammar spells, put together from what its parts spell.
use Rattle.std.proofs.Common.{◌≡◌, ◌==◌, ℕ, suc, false, true, inl, inr, List, [], ◌∷◌, ◌++◌, refl, ap, subst}
use Rattle.std.proofs.lemmas.List.{append-nil}
use Rattle.std.proofs.lemmas.Bool.{eqb-false}
use Rattle.dm_grammar.specs.Grammar.{Grammar, Empty, Word, Seq, Or, Many, Membership, Letter, Spells, unsupported}
use Rattle.dm_grammar.specs.Meaning.{list}
use Rattle.dm_grammar.specs.Sentence.{kinds_of, roles_of, AllSupported, IsSentence}

-- the grammar spells the letters, and all of them are supported
pub record Speaks (has : Membership) (g : Grammar) (letters : List Letter) : Type 0 where
  pub spells : Spells has g letters
  pub supported : AllSupported letters

both_supported : (x y : List Letter) → AllSupported x → AllSupported y → AllSupported (x ++ y)
both_supported [] y p q = q
both_supported (letter ∷ x) y p q = (p.0, both_supported x y p.1 q)

pub nothing : {has : Membership} → Speaks has Empty []
nothing = record { spells = refl; supported = tt }

pub word : {has : Membership} (class role kind : ℕ) → has class kind ≡ true → (role == unsupported) ≡ false → Speaks has (Word class role) ((kind, role) ∷ [])
word class role kind is known = record { spells = (kind, is, refl); supported = (eqb-false role unsupported known, tt) }

pub both : {has : Membership} {a b : Grammar} (x y : List Letter) → Speaks has a x → Speaks has b y → Speaks has (Seq a b) (x ++ y)
both x y p q = record { spells = (x, y, refl, p.spells, q.spells); supported = both_supported x y p.supported q.supported }

-- a token, and what stands behind it
pub before : {has : Membership} {b : Grammar} (class role kind : ℕ) (y : List Letter) → has class kind ≡ true → (role == unsupported) ≡ false → Speaks has b y → Speaks has (Seq (Word class role) b) ((kind, role) ∷ y)
before class role kind y is known q = both ((kind, role) ∷ []) y (word class role kind is known) q

pub one : {has : Membership} {a b : Grammar} (x : List Letter) → Speaks has a x → Speaks has (Or a b) x
one x p = record { spells = inl p.spells; supported = p.supported }

pub other : {has : Membership} {a b : Grammar} (x : List Letter) → Speaks has b x → Speaks has (Or a b) x
other x p = record { spells = inr p.spells; supported = p.supported }

-- behind what may be left out, and is
pub passing : {has : Membership} {a b : Grammar} (x : List Letter) → Speaks has b x → Speaks has (Seq (Or Empty a) b) x
passing x p = both [] x (one [] nothing) p

pub no_more : {has : Membership} {a : Grammar} → Speaks has (Many a) []
no_more = record { spells = (0, refl); supported = tt }

pub more : {has : Membership} {a : Grammar} (x y : List Letter) → Speaks has a x → Speaks has (Many a) y → Speaks has (Many a) (x ++ y)
more x y p q = record { spells = (suc q.spells.0, (x, y, refl, p.spells, q.spells.1)); supported = both_supported x y p.supported q.supported }

-- a list of one item
pub single : {has : Membership} {item : Grammar} (separator role : ℕ) (x : List Letter) → Speaks has item x → Speaks has (list item separator role) x
single {has} {item} separator role x p = subst (λ (z : List Letter). Speaks has (list item separator role) z) (append-nil x) (both x [] p no_more)

-- an item more at a list's front
pub listed : {has : Membership} {item : Grammar} (separator role kind : ℕ) (x y : List Letter) → has separator kind ≡ true → (role == unsupported) ≡ false → Speaks has item x → Speaks has (list item separator role) y
    → Speaks has (list item separator role) (x ++ (kind, role) ∷ y)
listed {has} {item} separator role kind x y is known p q = by q.spells q.supported where
  by : Spells has (list item separator role) y → AllSupported y → Speaks has (list item separator role) (x ++ (kind, role) ∷ y)
  by (front, back, e, s, r) supported = record {
    spells = (x, (kind, role) ∷ y, refl, p.spells, (suc r.0, ((kind, role) ∷ front, back, ap (λ (z : List Letter). (kind, role) ∷ z) e, ((kind, role) ∷ [], front, refl, (kind, is, refl), s), r.1)));
    supported = both_supported x ((kind, role) ∷ y) p.supported (eqb-false role unsupported known, supported);
  }

pub sentence : (has : Membership) (g : Grammar) (letters : List Letter) → Speaks has g letters → IsSentence has g (kinds_of letters) (roles_of letters)
sentence has g letters p = (letters, refl, refl, p.supported, p.spells)
