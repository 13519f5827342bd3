-- Names in byte order, each once: which names a set has, and that lists that rise are told apart by what they have.
use Rattle.std.proofs.Common.{◌≡◌, List, [], ◌∷◌, refl, sym, ap, subst, ◌∙◌, inl, inr}
use Rattle.std.specs.declared.cmp.Ordering.{Ordering}
use Rattle.std.specs.declared.cmp.Ordering.TheVariants.{Less, Equal, Greater}
use Rattle.std.specs.Ordering.{ordering_reverse}
use Rattle.std.proofs.lemmas.Cmp.{nat_list_cmp_total, tied_itself}
use Rattle.std.proofs.lemmas.Map.Lookups.{exact_bytes}
use Rattle.dm_schema.specs.Names.{Text, name_cmp}
use Rattle.dm_join.specs.NameSet.{with_name, name_set}
use Rattle.dm_join.proofs.Lists.{IsIn}

-- each name comes before all later ones
abbrev pub IsRising : List Text → Type 0
IsRising [] = Unit {0}
IsRising (n ∷ ns) = ((m : Text) → IsIn m ns → name_cmp n m ≡ Less) × IsRising ns

pub not_before_itself : (n : Text) → name_cmp n n ≡ Less → ⊥
not_before_itself n e = let tie = tied_itself nat_list_cmp_total n in cc

pub not_both_before : (n m : Text) → name_cmp n m ≡ Less → name_cmp m n ≡ Less → ⊥
not_both_before n m e f = let turned = nat_list_cmp_total.antisymm n m ∙ ap ordering_reverse f in cc (sym e ∙ turned)

pub before_third : (a b c : Text) → name_cmp a b ≡ Less → name_cmp b c ≡ Less → name_cmp a c ≡ Less
before_third a b c e f = nat_list_cmp_total.trans a b c e f

turned : (n m : Text) → name_cmp n m ≡ Greater → name_cmp m n ≡ Less
turned n m e = nat_list_cmp_total.antisymm m n ∙ ap ordering_reverse e

put_less : (x n : Text) (ns : List Text) → name_cmp x n ≡ Less → with_name x (n ∷ ns) ≡ x ∷ n ∷ ns
put_less x n ns e = rw e refl

put_equal : (x n : Text) (ns : List Text) → name_cmp x n ≡ Equal → with_name x (n ∷ ns) ≡ n ∷ ns
put_equal x n ns e = rw e refl

put_greater : (x n : Text) (ns : List Text) → name_cmp x n ≡ Greater → with_name x (n ∷ ns) ≡ n ∷ with_name x ns
put_greater x n ns e = rw e refl

in_with : (x : Text) (ns : List Text) (m : Text) → IsIn m (x ∷ ns) → IsIn m (with_name x ns)
in_with x [] m i = i
in_with x (n ∷ ns) m i = by (name_cmp x n) refl i (in_with x ns m) where
  by : (o : Ordering) → name_cmp x n ≡ o → IsIn m (x ∷ n ∷ ns) → (IsIn m (x ∷ ns) → IsIn m (with_name x ns)) → IsIn m (with_name x (n ∷ ns))
  by Less e i rest = subst (IsIn m) (sym (put_less x n ns e)) i
  by Equal e (inl is) rest = subst (IsIn m) (sym (put_equal x n ns e)) (inl (sym (exact_bytes x n e) ∙ is))
  by Equal e (inr i) rest = subst (IsIn m) (sym (put_equal x n ns e)) i
  by Greater e (inl is) rest = subst (IsIn m) (sym (put_greater x n ns e)) (inr (rest (inl is)))
  by Greater e (inr (inl is)) rest = subst (IsIn m) (sym (put_greater x n ns e)) (inl is)
  by Greater e (inr (inr i)) rest = subst (IsIn m) (sym (put_greater x n ns e)) (inr (rest (inr i)))

from_with : (x : Text) (ns : List Text) (m : Text) → IsIn m (with_name x ns) → IsIn m (x ∷ ns)
from_with x [] m i = i
from_with x (n ∷ ns) m i = by (name_cmp x n) refl (from_with x ns m) where
  by : (o : Ordering) → name_cmp x n ≡ o → (IsIn m (with_name x ns) → IsIn m (x ∷ ns)) → IsIn m (x ∷ n ∷ ns)
  by Less e rest = subst (IsIn m) (put_less x n ns e) i
  by Equal e rest = inr (subst (IsIn m) (put_equal x n ns e) i)
  by Greater e rest = later (subst (IsIn m) (put_greater x n ns e) i) where
    later : IsIn m (n ∷ with_name x ns) → IsIn m (x ∷ n ∷ ns)
    later (inl is) = inr (inl is)
    later (inr j) = behind (rest j) where
      behind : IsIn m (x ∷ ns) → IsIn m (x ∷ n ∷ ns)
      behind (inl is) = inl is
      behind (inr k) = inr (inr k)

rising_with : (x : Text) (ns : List Text) → IsRising ns → IsRising (with_name x ns)
rising_with x [] h = (λ m i. absurd i, tt)
rising_with x (n ∷ ns) h = by (name_cmp x n) refl (rising_with x ns h.1) where
  by : (o : Ordering) → name_cmp x n ≡ o → IsRising (with_name x ns) → IsRising (with_name x (n ∷ ns))
  by Less e rest = subst IsRising (sym (put_less x n ns e)) (all, h) where
    all : (m : Text) → IsIn m (n ∷ ns) → name_cmp x m ≡ Less
    all m (inl is) = ap (name_cmp x) (sym is) ∙ e
    all m (inr i) = before_third x n m e (h.0 m i)
  by Equal e rest = subst IsRising (sym (put_equal x n ns e)) h
  by Greater e rest = subst IsRising (sym (put_greater x n ns e)) (λ m i. all m (from_with x ns m i), rest) where
    all : (m : Text) → IsIn m (x ∷ ns) → name_cmp n m ≡ Less
    all m (inl is) = ap (name_cmp n) (sym is) ∙ turned x n e
    all m (inr i) = h.0 m i

pub in_set : (ns : List Text) (m : Text) → IsIn m ns → IsIn m (name_set ns)
in_set [] m i = i
in_set (n ∷ ns) m (inl is) = in_with n (name_set ns) m (inl is)
in_set (n ∷ ns) m (inr i) = in_with n (name_set ns) m (inr (in_set ns m i))

pub from_set : (ns : List Text) (m : Text) → IsIn m (name_set ns) → IsIn m ns
from_set [] m i = i
from_set (n ∷ ns) m i = by (from_with n (name_set ns) m i) (from_set ns m) where
  by : IsIn m (n ∷ name_set ns) → (IsIn m (name_set ns) → IsIn m ns) → IsIn m (n ∷ ns)
  by (inl is) rest = inl is
  by (inr j) rest = inr (rest j)

pub rising_set : (ns : List Text) → IsRising (name_set ns)
rising_set [] = tt
rising_set (n ∷ ns) = rising_with n (name_set ns) (rising_set ns)

-- two lists that rise and have the same names are one
pub rising_alike : (xs ys : List Text) → IsRising xs → IsRising ys → ((m : Text) → IsIn m xs → IsIn m ys) → ((m : Text) → IsIn m ys → IsIn m xs) → xs ≡ ys
rising_alike [] [] h k to back = refl
rising_alike [] (y ∷ ys) h k to back = absurd (back y (inl refl))
rising_alike (x ∷ xs) [] h k to back = absurd (to x (inl refl))
rising_alike (x ∷ xs) (y ∷ ys) h k to back = ap (λ n. n ∷ xs) first ∙ ap (λ ns. y ∷ ns) (rising_alike xs ys h.1 k.1 tail_to tail_back) where
  meet : IsIn x (y ∷ ys) → IsIn y (x ∷ xs) → x ≡ y
  meet (inl is) j = sym is
  meet (inr i) (inl is) = is
  meet (inr i) (inr j) = absurd (not_both_before y x (k.0 x i) (h.0 y j))

  first : x ≡ y
  first = meet (to x (inl refl)) (back y (inl refl))

  tail_to : (m : Text) → IsIn m xs → IsIn m ys
  tail_to m i = by (to m (inr i)) where
    by : IsIn m (y ∷ ys) → IsIn m ys
    by (inl is) = absurd (not_before_itself m (ap (λ n. name_cmp n m) (sym (first ∙ is)) ∙ h.0 m i))
    by (inr j) = j

  tail_back : (m : Text) → IsIn m ys → IsIn m xs
  tail_back m i = by (back m (inr i)) where
    by : IsIn m (x ∷ xs) → IsIn m xs
    by (inl is) = absurd (not_before_itself m (ap (λ n. name_cmp n m) (sym (sym first ∙ is)) ∙ k.0 m i))
    by (inr j) = j

-- sets of lists with the same names are one
pub set_alike : (xs ys : List Text) → ((m : Text) → IsIn m xs → IsIn m ys) → ((m : Text) → IsIn m ys → IsIn m xs) → name_set xs ≡ name_set ys
set_alike xs ys to back =
    rising_alike (name_set xs) (name_set ys) (rising_set xs) (rising_set ys)
    (λ m i. in_set ys m (to m (from_set xs m i))) (λ m i. in_set xs m (back m (from_set ys m i)))
