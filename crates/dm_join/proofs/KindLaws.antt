-- Laws of the order of kinds.
use Rattle.std.proofs.Common.{◌≡◌, ℕ, Bool, true, false, cond, List, [], ◌∷◌, Option, Some, None, refl, sym, ap, subst, ◌∙◌, arith, inl, inr}
use Rattle.std.specs.Prelude.{◌⊎◌, ◌&&◌}
use Rattle.std.proofs.lemmas.Bool.{false≢true, or_cases, or_left, or_right, and_parts, and_from, leb-true, le-leb, eq-eqb, both_ways}
use Rattle.dm_schema.specs.declared.column.Kind.{Kind}
use Rattle.dm_schema.specs.declared.column.Kind.TheVariants as kind
use Rattle.dm_schema.specs.declared.column.Column.{Column}
use Rattle.dm_schema.specs.declared.kind_order.Family.{Family}
use Rattle.dm_schema.specs.declared.kind_order.Family.TheVariants as family
use Rattle.dm_schema.specs.contracts.kind_order.FamilyPartialEq.TheImpl as family_eq
use Rattle.dm_schema.specs.KindOrder.{family_of, size_of, size_at_most, same_kind, same_family, kind_at_most, comparable}
use Rattle.dm_join.specs.Join.{greatest}
use Rattle.dm_join.proofs.Lists.{IsIn}
use Rattle.dm_join.proofs.Exact.{kind_exact}
use Rattle.dm_join.proofs.JoinColumns.{greater, greatest_step}

pub same_kind_itself : (k : Kind) → same_kind k k ≡ true
same_kind_itself (kind.Signed x) = eq-eqb x x refl
same_kind_itself (kind.Unsigned x) = eq-eqb x x refl
same_kind_itself (kind.Decimal x y) = and_from _ _ (eq-eqb x x refl) (eq-eqb y y refl)
same_kind_itself (kind.Char x) = eq-eqb x x refl
same_kind_itself (kind.Varchar x) = eq-eqb x x refl
same_kind_itself (kind.Text x) = eq-eqb x x refl
same_kind_itself (kind.Binary x) = eq-eqb x x refl
same_kind_itself (kind.Varbinary x) = eq-eqb x x refl
same_kind_itself (kind.Blob x) = eq-eqb x x refl
same_kind_itself kind.Date = refl
same_kind_itself kind.Year = refl
same_kind_itself (kind.Datetime x) = eq-eqb x x refl
same_kind_itself (kind.Timestamp x) = eq-eqb x x refl

abbrev pub one_family : Family → Family → Bool
one_family = (family_eq.ghosts).eq

pub family_itself : (f : Family) → one_family f f ≡ true
family_itself family.Signed = refl
family_itself family.Unsigned = refl
family_itself family.Decimal = refl
family_itself family.Char = refl
family_itself family.Varchar = refl
family_itself family.Text = refl
family_itself family.Binary = refl
family_itself family.Varbinary = refl
family_itself family.Blob = refl
family_itself family.Date = refl
family_itself family.Year = refl
family_itself family.Datetime = refl
family_itself family.Timestamp = refl

pub family_exact : (f g : Family) → one_family f g ≡ true → f ≡ g
family_exact family.Signed family.Signed h = refl
family_exact family.Unsigned family.Unsigned h = refl
family_exact family.Decimal family.Decimal h = refl
family_exact family.Char family.Char h = refl
family_exact family.Varchar family.Varchar h = refl
family_exact family.Text family.Text h = refl
family_exact family.Binary family.Binary h = refl
family_exact family.Varbinary family.Varbinary h = refl
family_exact family.Blob family.Blob h = refl
family_exact family.Date family.Date h = refl
family_exact family.Year family.Year h = refl
family_exact family.Datetime family.Datetime h = refl
family_exact family.Timestamp family.Timestamp h = refl
family_exact f g h = absurd (false≢true h)

family_third : (a b c : Kind) → same_family a b ≡ true → same_family b c ≡ true → same_family a c ≡ true
family_third a b c e f = subst (λ g. one_family (family_of a) g ≡ true) (family_exact (family_of b) (family_of c) f) e

size_third : (s t u : Option ℕ) → size_at_most s t ≡ true → size_at_most t u ≡ true → size_at_most s u ≡ true
size_third None t u low high = absurd (false≢true low)
size_third (Some m) None u low high = absurd (false≢true low)
size_third (Some m) (Some n) None low high = absurd (false≢true high)
size_third (Some m) (Some n) (Some o) low high = le-leb m o (omega (arith, leb-true m n low, leb-true n o high))

pub below_cases : (a b : Kind) → kind_at_most a b ≡ true → (a ≡ b) ⊎ ((same_family a b ≡ true) × (size_at_most (size_of a) (size_of b) ≡ true))
below_cases a b e = by (or_cases (same_kind a b) (same_family a b && size_at_most (size_of a) (size_of b)) e) where
  by : (same_kind a b ≡ true) ⊎ ((same_family a b && size_at_most (size_of a) (size_of b)) ≡ true) → (a ≡ b) ⊎ ((same_family a b ≡ true) × (size_at_most (size_of a) (size_of b) ≡ true))
  by (inl same) = inl (kind_exact a b same)
  by (inr h) = inr (and_parts (same_family a b) (size_at_most (size_of a) (size_of b)) h)

pub below_by_size : (a b : Kind) → same_family a b ≡ true → size_at_most (size_of a) (size_of b) ≡ true → kind_at_most a b ≡ true
below_by_size a b f s = or_right (same_kind a b) (same_family a b && size_at_most (size_of a) (size_of b)) (and_from (same_family a b) (size_at_most (size_of a) (size_of b)) f s)

pub kind_reflexive : (k : Kind) → kind_at_most k k ≡ true
kind_reflexive k = or_left (same_kind k k) (same_family k k && size_at_most (size_of k) (size_of k)) (same_kind_itself k)

pub kind_transitive : (a b c : Kind) → kind_at_most a b ≡ true → kind_at_most b c ≡ true → kind_at_most a c ≡ true
kind_transitive a b c low high = by (below_cases a b low) (below_cases b c high) where
  by : (a ≡ b) ⊎ ((same_family a b ≡ true) × (size_at_most (size_of a) (size_of b) ≡ true)) → (b ≡ c) ⊎ ((same_family b c ≡ true) × (size_at_most (size_of b) (size_of c) ≡ true)) → kind_at_most a c ≡ true
  by (inl same) h = subst (λ k. kind_at_most k c ≡ true) (sym same) high
  by (inr l) (inl same) = subst (λ k. kind_at_most a k ≡ true) same low
  by (inr l) (inr h) = below_by_size a c (family_third a b c l.0 h.0) (size_third (size_of a) (size_of b) (size_of c) l.1 h.1)

both_sizes : (x y : ℕ) → size_at_most (Some x) (Some y) ≡ true → size_at_most (Some y) (Some x) ≡ true → x ≡ y
both_sizes x y l h = omega (arith, leb-true x y l, leb-true y x h)

size_tells : (a b : Kind) → same_family a b ≡ true → size_at_most (size_of a) (size_of b) ≡ true → size_at_most (size_of b) (size_of a) ≡ true → a ≡ b
size_tells (kind.Signed x) (kind.Signed y) f l h = ap kind.Signed (both_sizes x y l h)
size_tells (kind.Unsigned x) (kind.Unsigned y) f l h = ap kind.Unsigned (both_sizes x y l h)
size_tells (kind.Decimal x z) (kind.Decimal y w) f l h = absurd (false≢true l)
size_tells (kind.Char x) (kind.Char y) f l h = ap kind.Char (both_sizes x y l h)
size_tells (kind.Varchar x) (kind.Varchar y) f l h = ap kind.Varchar (both_sizes x y l h)
size_tells (kind.Text x) (kind.Text y) f l h = ap kind.Text (both_sizes x y l h)
size_tells (kind.Binary x) (kind.Binary y) f l h = absurd (false≢true l)
size_tells (kind.Varbinary x) (kind.Varbinary y) f l h = ap kind.Varbinary (both_sizes x y l h)
size_tells (kind.Blob x) (kind.Blob y) f l h = ap kind.Blob (both_sizes x y l h)
size_tells kind.Date kind.Date f l h = refl
size_tells kind.Year kind.Year f l h = refl
size_tells (kind.Datetime x) (kind.Datetime y) f l h = absurd (false≢true l)
size_tells (kind.Timestamp x) (kind.Timestamp y) f l h = absurd (false≢true l)
size_tells a b f l h = absurd (false≢true f)

pub kind_antisymmetric : (a b : Kind) → kind_at_most a b ≡ true → kind_at_most b a ≡ true → a ≡ b
kind_antisymmetric a b low high = by (below_cases a b low) (below_cases b a high) where
  by : (a ≡ b) ⊎ ((same_family a b ≡ true) × (size_at_most (size_of a) (size_of b) ≡ true)) → (b ≡ a) ⊎ ((same_family b a ≡ true) × (size_at_most (size_of b) (size_of a) ≡ true)) → a ≡ b
  by (inl same) h = same
  by (inr l) (inl same) = sym same
  by (inr l) (inr h) = size_tells a b l.0 l.1 h.1

-- comparable kinds are of one family
pub comparable_family : (a b : Kind) → comparable a b ≡ true → same_family a b ≡ true
comparable_family a b e = by (or_cases (kind_at_most a b) (kind_at_most b a) e) where
  of : (x y : Kind) → kind_at_most x y ≡ true → family_of x ≡ family_of y
  of x y h = at (below_cases x y h) where
    at : (x ≡ y) ⊎ ((same_family x y ≡ true) × (size_at_most (size_of x) (size_of y) ≡ true)) → family_of x ≡ family_of y
    at (inl same) = ap family_of same
    at (inr parts) = family_exact (family_of x) (family_of y) parts.0

  by : (kind_at_most a b ≡ true) ⊎ (kind_at_most b a ≡ true) → same_family a b ≡ true
  by (inl low) = ap (one_family (family_of a)) (sym (of a b low)) ∙ family_itself (family_of a)
  by (inr high) = ap (one_family (family_of a)) (of b a high) ∙ family_itself (family_of a)

-- of two comparable kinds the greater one is at least each
greater_bounds : (top k : Kind) → comparable top k ≡ true → (kind_at_most top (greater top k) ≡ true) × (kind_at_most k (greater top k) ≡ true)
unfolding greater
greater_bounds top k either = by (kind_at_most top k) refl where
  other : kind_at_most top k ≡ false → (kind_at_most top k ≡ true) ⊎ (kind_at_most k top ≡ true) → kind_at_most k top ≡ true
  other e (inl low) = absurd (both_ways _ e low)
  other e (inr high) = high

  by : (b : Bool) → kind_at_most top k ≡ b → (kind_at_most top (cond b k top) ≡ true) × (kind_at_most k (cond b k top) ≡ true)
  by true low = (low, kind_reflexive k)
  by false e = (kind_reflexive top, other e (or_cases (kind_at_most top k) (kind_at_most k top) either))

greater_keeps : (P : Kind → Type 0) (top k : Kind) → P top → P k → P (greater top k)
unfolding greater
greater_keeps P top k p q = by (kind_at_most top k) where
  by : (b : Bool) → P (cond b k top)
  by true = q
  by false = p

-- the greatest of comparable kinds is at least each of them
pub greatest_bounds : (top : Kind) (cs : List Column) → ((c : Column) → IsIn c cs → comparable top c.kind ≡ true) → ((c d : Column) → IsIn c cs → IsIn d cs → comparable c.kind d.kind ≡ true)
    → (kind_at_most top (greatest top cs) ≡ true) × ((c : Column) → IsIn c cs → kind_at_most c.kind (greatest top cs) ≡ true)
greatest_bounds top [] with_top pairs = (kind_reflexive top, λ c i. absurd i)
greatest_bounds top (c ∷ cs) with_top pairs =
    let here = greater_bounds top c.kind (with_top c (inl refl)) in
    let rest = greatest_bounds (greater top c.kind) cs
    (λ d i. greater_keeps (λ k. comparable k d.kind ≡ true) top c.kind (with_top d (inr i)) (pairs c d (inl refl) (inr i)))
    (λ d e i j. pairs d e (inr i) (inr j)) in (
      ap (kind_at_most top) (greatest_step top c cs) ∙ kind_transitive top (greater top c.kind) (greatest (greater top c.kind) cs) here.0 rest.0,
      at (kind_transitive c.kind (greater top c.kind) (greatest (greater top c.kind) cs) here.1 rest.0) rest.1,
    ) where
      at : kind_at_most c.kind (greatest (greater top c.kind) cs) ≡ true → ((d : Column) → IsIn d cs → kind_at_most d.kind (greatest (greater top c.kind) cs) ≡ true)
          → (d : Column) → IsIn d (c ∷ cs) → kind_at_most d.kind (greatest top (c ∷ cs)) ≡ true
      at first later d (inl is) = ap (λ (e : Column). kind_at_most e.kind (greatest top (c ∷ cs))) (sym is) ∙ ap (kind_at_most c.kind) (greatest_step top c cs) ∙ first
      at first later d (inr i) = ap (kind_at_most d.kind) (greatest_step top c cs) ∙ later d i

-- and at most each kind that they all are at most
pub greatest_least : (top high : Kind) (cs : List Column) → kind_at_most top high ≡ true → ((c : Column) → IsIn c cs → kind_at_most c.kind high ≡ true) → kind_at_most (greatest top cs) high ≡ true
greatest_least top high [] low each = low
greatest_least top high (c ∷ cs) low each =
    ap (λ k. kind_at_most k high) (greatest_step top c cs)
    ∙ greatest_least (greater top c.kind) high cs (greater_keeps (λ k. kind_at_most k high ≡ true) top c.kind low (each c (inl refl))) (λ d i. each d (inr i))
