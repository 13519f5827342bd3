use Rattle.std.proofs.Common.{◌≡◌, ℕ, suc, zero, Bool, true, false, not, ◌&&◌, ◌||◌, inl, inr, sym, ◌∙◌, ap, ◌<◌, arith}
use Rattle.std.proofs.lemmas.Bool.{and_parts, false≢true, cases_lt}
use Rattle.dm_grammar.specs.Grammar.{Grammar, Empty, Word, Skip, Seq, Or, Many, Membership, kind_count}
use Rattle.dm_grammar.specs.Determinism.{is_nullable, first, follow_before, disjoint_below, is_ll1}
use Rattle.dm_grammar.proofs.Derivative.{IsLl1}

-- The tests mean what they compute.

Disjoint-disjoint_below : (one other : ℕ → Bool) (count kind : ℕ) → disjoint_below one other count ≡ true → kind < count → one kind ≡ true → other kind ≡ true → ⊥
Disjoint-disjoint_below one other zero kind e h x y = absurd (omega arith)
Disjoint-disjoint_below one other (suc count) kind e h x y =
    let parts = and_parts (not (one count && other count)) (disjoint_below one other count) e in
    elim (cases_lt kind count) [
      | inl l ↦ Disjoint-disjoint_below one other count kind parts.1 l x y
      | inr l ↦ (let same : kind ≡ count = omega arith in both (one count) (other count) (ap one (sym same) ∙ x) (ap other (sym same) ∙ y) parts.0)
    ]
  where
    both : (a b : Bool) → a ≡ true → b ≡ true → not (a && b) ≡ true → ⊥
    both true true i j k = false≢true k
    both true false i j k = false≢true j
    both false b i j k = false≢true i

pub IsLl1-is_ll1 : (has : Membership) (g : Grammar) (follow : ℕ → Bool) → is_ll1 has g follow ≡ true → IsLl1 has g follow
IsLl1-is_ll1 has Empty follow e = tt
IsLl1-is_ll1 has (Word class role) follow e = tt
IsLl1-is_ll1 has (Skip depth) follow e = λ kind low x y. Disjoint-disjoint_below (first has (Skip 0)) follow kind_count kind e low x y
IsLl1-is_ll1 has (Seq a b) follow e =
    let parts = and_parts (is_ll1 has a (follow_before has b follow)) (is_ll1 has b follow) e in
    (IsLl1-is_ll1 has a (follow_before has b follow) parts.0, IsLl1-is_ll1 has b follow parts.1)
IsLl1-is_ll1 has (Or a b) follow e =
    let behind = not (is_nullable (Or a b)) || disjoint_below (first has (Or a b)) follow kind_count in
    let parts = and_parts (disjoint_below (first has a) (first has b) kind_count) (behind && (is_ll1 has a follow && is_ll1 has b follow)) e in
    let others = and_parts behind (is_ll1 has a follow && is_ll1 has b follow) parts.1 in
    let both = and_parts (is_ll1 has a follow) (is_ll1 has b follow) others.1 in (
      (λ kind low x y. Disjoint-disjoint_below (first has a) (first has b) kind_count kind parts.0 low x y),
      (λ nullable kind low x y. Disjoint-disjoint_below (first has (Or a b)) follow kind_count kind (implied (is_nullable (Or a b)) (disjoint_below (first has (Or a b)) follow kind_count) nullable others.0) low x y),
      IsLl1-is_ll1 has a follow both.0,
      IsLl1-is_ll1 has b follow both.1,
    )
  where
    implied : (a b : Bool) → a ≡ true → (not a || b) ≡ true → b ≡ true
    implied true b m e = e
    implied false b m e = absurd (false≢true m)
IsLl1-is_ll1 has (Many a) follow e =
    let parts = and_parts (disjoint_below (first has (Many a)) follow kind_count) (is_ll1 has a (follow_before has (Many a) follow)) e in
    ((λ kind low x y. Disjoint-disjoint_below (first has (Many a)) follow kind_count kind parts.0 low x y), IsLl1-is_ll1 has a (follow_before has (Many a) follow) parts.1)
