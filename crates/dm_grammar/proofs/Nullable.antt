use Rattle.std.proofs.Common.{◌≡◌, suc, zero, true, List, [], ◌∷◌, ◌++◌, inl, inr, refl, sym, ◌∙◌}
use Rattle.std.proofs.lemmas.Bool.{or_cases, and_parts, or_left, or_right, false≢true}
use Rattle.dm_grammar.specs.Grammar.{Grammar, Empty, Word, Skip, Seq, Or, Many, Membership, Letter, Spells}
use Rattle.dm_grammar.specs.Determinism.{is_nullable}

-- `is_nullable` tells whether the empty run of tokens is spelled
pub spells_nullable : (has : Membership) (g : Grammar) → is_nullable g ≡ true → Spells has g []
spells_nullable has Empty e = refl
spells_nullable has (Word class role) e = absurd (false≢true e)
spells_nullable has (Skip zero) e = refl
spells_nullable has (Skip (suc depth)) e = absurd (false≢true e)
spells_nullable has (Seq a b) e =
    let p = and_parts (is_nullable a) (is_nullable b) e in
    ([], [], refl, spells_nullable has a p.0, spells_nullable has b p.1)
spells_nullable has (Or a b) e =
    let c = or_cases (is_nullable a) (is_nullable b) e in
    elim c [ inl h ↦ inl (spells_nullable has a h) | inr h ↦ inr (spells_nullable has b h) ]
spells_nullable has (Many a) e = (0, refl)

nil_parts : (x y : List Letter) → [] ≡ x ++ y → (x ≡ []) × (y ≡ [])
nil_parts [] y e = (refl, sym e)
nil_parts (letter ∷ letters) y e = absurd cc

pub nullable_from_spells : (has : Membership) (g : Grammar) (letters : List Letter) → letters ≡ [] → Spells has g letters → is_nullable g ≡ true
nullable_from_spells has Empty letters e s = refl
nullable_from_spells has (Word class role) letters e (kind, h, q) = absurd cc
nullable_from_spells has (Skip zero) letters e s = refl
nullable_from_spells has (Skip (suc depth)) [] e s = absurd cc
nullable_from_spells has (Skip (suc depth)) (letter ∷ letters) e s = absurd cc
nullable_from_spells has (Seq a b) letters e (front, back, q, sa, sb) =
    let p : (front ≡ []) × (back ≡ []) = nil_parts front back (sym e ∙ q) in
    let x : is_nullable a ≡ true = nullable_from_spells has a front p.0 sa in
    let y : is_nullable b ≡ true = nullable_from_spells has b back p.1 sb in cc
nullable_from_spells has (Or a b) letters e (inl s) = or_left (is_nullable a) (is_nullable b) (nullable_from_spells has a letters e s)
nullable_from_spells has (Or a b) letters e (inr s) = or_right (is_nullable a) (is_nullable b) (nullable_from_spells has b letters e s)
nullable_from_spells has (Many a) letters e s = refl
