-- Names: their order, and when they are the same.
use Rattle.std.proofs.Common.{◌≡◌, true, false, refl, sym, ap, ◌∙◌}
use Rattle.std.specs.Prelude.{not, ◌&&◌}
use Rattle.std.specs.declared.cmp.Ordering.{Ordering}
use Rattle.std.specs.declared.cmp.Ordering.TheVariants.{Less, Equal, Greater}
use Rattle.std.specs.Ordering.{is_lt, is_eq, nat_cmp, ordering_reverse}
use Rattle.std.proofs.lemmas.Cmp.{nat_list_cmp_total, nat_list_eq_equiv, same_from_slice_cmp}
use Rattle.std.proofs.lemmas.Map.Lookups.{exact_bytes}
use Rattle.std.proofs.lemmas.Bool.{false≢true, false_from_ne_true}
use Rattle.std.proofs.lemmas.Bool.Decides.{nat_tests}
use Rattle.std.proofs.Common.{arith}
use Rattle.dm_schema.specs.Names.{Text, name_cmp, same_name}

pub same_by_order : (a b : Text) → is_eq (name_cmp a b) ≡ same_name a b
same_by_order a b = same_from_slice_cmp nat_cmp is_eq same_name refl (λ _ _. refl) (λ _ _. refl) (λ x y xs ys o h. grind (arith, nat_tests)) a b (name_cmp a b) refl

pub tied : (o : Ordering) → is_eq o ≡ true → o ≡ Equal
tied Less e = absurd (false≢true e)
tied Equal e = refl
tied Greater e = absurd (false≢true e)

pub same_is_equal : (a b : Text) → same_name a b ≡ true → a ≡ b
same_is_equal a b e = exact_bytes a b (tied (name_cmp a b) (same_by_order a b ∙ e))

pub same_itself : (a : Text) → same_name a a ≡ true
same_itself a = nat_list_eq_equiv.refl a

pub same_from : (a b : Text) → a ≡ b → same_name a b ≡ true
same_from a b e = ap (same_name a) (sym e) ∙ same_itself a

pub same_back : (a b : Text) → same_name a b ≡ same_name b a
same_back a b = nat_list_eq_equiv.symm a b

pub not_same : (a b : Text) → (a ≡ b → ⊥) → same_name a b ≡ false
not_same a b h = false_from_ne_true (same_name a b) (λ e. h (same_is_equal a b e))

-- names of which none comes before the other are the same
ties_alike : (o p : Ordering) → p ≡ ordering_reverse o → (not (is_lt o) && not (is_lt p)) ≡ is_eq p
ties_alike Less p e = ap (λ q. not (is_lt Less) && not (is_lt q)) e ∙ ap is_eq (sym e)
ties_alike Equal p e = ap (λ q. not (is_lt Equal) && not (is_lt q)) e ∙ ap is_eq (sym e)
ties_alike Greater p e = ap (λ q. not (is_lt Greater) && not (is_lt q)) e ∙ ap is_eq (sym e)

pub ties_are_same : (a b : Text) → (not (is_lt (name_cmp a b)) && not (is_lt (name_cmp b a))) ≡ same_name b a
ties_are_same a b = ties_alike (name_cmp a b) (name_cmp b a) (nat_list_cmp_total.antisymm b a) ∙ same_by_order b a
