-- The numbers of statements among items: how many of them are at most a position.
use Rattle.std.proofs.Common.{◌≡◌, ℕ, zero, suc, ◌+◌, ◌-◌, ◌<◌, ◌≤◌, ◌^◌, min, drop, Bool, true, false, leb, List, [], ◌∷◌, length, take, filter, get_or, refl, sym, ap, ◌∙◌, subst, arith}
use Rattle.std.proofs.lemmas.Bool.Decides.{nat_tests}
use Rattle.std.specs.List.Sorted.{IsNonDecreasingBy, IsPartitionPoint, IsPartitionedBy}
use Rattle.std.proofs.lemmas.List.Sorted.{IsPartitionedBy-leb}
use Rattle.dm_schema.specs.Layout.{Layout}
use Rattle.dm_walk.specs.declared.item.Item.{Item}
use Rattle.dm_walk.specs.declared.item.Item.TheVariants as item
use Rattle.dm_track.specs.Histories.{ddl_numbers, is_ddl, values_from}

-- each is at least the first item's number
at_least : (number : ℕ) (items : List Item) (j d : ℕ) → j < length (ddl_numbers number items) → number ≤ get_or (ddl_numbers number items) j d
at_least number [] j d within = absurd (omega arith)
at_least number (item.Row p ∷ items) j d within = let rest = at_least (number + 1) items j d within in omega arith
at_least number (item.Ddl p ∷ items) zero d within = omega arith
at_least number (item.Ddl p ∷ items) (suc j) d within =
    let h : j < length (ddl_numbers (number + 1) items) = omega arith in
    let rest = at_least (number + 1) items j d h in omega arith

pub rising : (number : ℕ) (items : List Item) → IsNonDecreasingBy (λ (x : ℕ). x) (ddl_numbers number items)
rising number [] i j d le within = absurd (omega arith)
rising number (item.Row p ∷ items) i j d le within = rising (number + 1) items i j d le within
rising number (item.Ddl p ∷ items) zero zero d le within = omega arith
rising number (item.Ddl p ∷ items) zero (suc j) d le within =
    let h : j < length (ddl_numbers (number + 1) items) = omega arith in
    let rest = at_least (number + 1) items j d h in omega arith
rising number (item.Ddl p ∷ items) (suc i) zero d le within = absurd (omega arith)
rising number (item.Ddl p ∷ items) (suc i) (suc j) d le within =
    let h : j < length (ddl_numbers (number + 1) items) = omega arith in
    let l : i ≤ j = omega arith in rising (number + 1) items i j d l h

-- a place that parts numbers by a test is how many pass it
pub parted : (test : ℕ → Bool) (numbers : List ℕ) (k : ℕ) → k ≤ length numbers → IsPartitionPoint (λ y. test y ≡ true) (λ y. test y ≡ false) numbers k → k ≡ length (filter test numbers)
parted test [] k within parts = omega arith
parted test (x ∷ xs) zero within parts =
    let no : test x ≡ false = parts.1 0 0 (omega arith) (omega arith) in
    rw no (parted test xs zero (omega arith) ((λ k d low high. absurd (omega arith)), (λ k d low high. parts.1 (suc k) d (omega arith) (omega arith))))
parted test (x ∷ xs) (suc k) within parts =
    let yes : test x ≡ true = parts.0 0 0 (omega arith) (omega arith) in
    rw yes (ap (λ (n : ℕ). suc n) (parted test xs k (omega arith) ((λ j d low high. parts.0 (suc j) d (omega arith) (omega arith)), (λ j d low high. parts.1 (suc j) d (omega arith) (omega arith)))))

above : (number t : ℕ) → 0 ≡ t + 1 - number → leb number t ≡ false
above number t e = grind (arith, nat_tests)

within_reach : (number t m : ℕ) → suc m ≡ t + 1 - number → leb number t ≡ true
within_reach number t m e = grind (arith, nat_tests)

counted : (t number m : ℕ) (items : List Item) → m ≡ t + 1 - number → length (filter (λ y. leb y t) (ddl_numbers number items)) ≡ length (filter is_ddl (take m items))
counted t number zero [] e = refl
counted t number (suc m) [] e = refl
counted t number zero (item.Row p ∷ items) e = counted t (number + 1) zero items (omega arith)
counted t number zero (item.Ddl p ∷ items) e = let no : leb number t ≡ false = above number t e in rw no (counted t (number + 1) zero items (omega arith))
counted t number (suc m) (item.Row p ∷ items) e = counted t (number + 1) m items (omega arith)
counted t number (suc m) (item.Ddl p ∷ items) e =
    let yes : leb number t ≡ true = within_reach number t m e in rw yes (ap (λ (n : ℕ). suc n) (counted t (number + 1) m items (omega arith)))

pub numbered : (items : List Item) (position k : ℕ) → k ≤ length (ddl_numbers 1 items) → IsPartitionPoint (λ y. leb y position ≡ true) (λ y. leb y position ≡ false) (ddl_numbers 1 items) k
    → k ≡ length (filter is_ddl (take position items))
numbered items position k within parts = parted (λ y. leb y position) (ddl_numbers 1 items) k within parts ∙ counted position 1 position items (omega arith)

pub passed : (items : List Item) (position k : ℕ) (ddls : List ℕ) → ddls ≡ ddl_numbers 1 items → k ≤ length ddls
    → (IsPartitionedBy (λ y. leb y position) ddls → IsPartitionPoint (λ y. leb y position ≡ true) (λ y. leb y position ≡ false) ddls k) → k ≡ length (filter is_ddl (take position items))
passed items position k ddls is within parts =
    let own = ddl_numbers 1 items in
    let sorted : IsPartitionedBy (λ y. leb y position) ddls = subst (IsPartitionedBy (λ y. leb y position)) (sym is) (IsPartitionedBy-leb (λ x. x) own position (rising 1 items)) in
    let bound : k ≤ length own = subst (λ (xs : List ℕ). k ≤ length xs) is within in
    numbered items position k bound (subst (λ (xs : List ℕ). IsPartitionPoint (λ y. leb y position ≡ true) (λ y. leb y position ≡ false) xs k) is (parts sorted))

-- What is left behind all items.

none_left : (items : List Item) (index : ℕ) → length items ≤ index → drop index items ≡ []
none_left [] zero within = refl
none_left [] (suc index) within = refl
none_left (x ∷ xs) zero within = absurd (omega arith)
none_left (x ∷ xs) (suc index) within = none_left xs index (omega arith)

pub all_counted : (layout : Layout) (left : List Layout) (items : List Item) (count index total : ℕ) → length items ≤ index → count < 2 ^ 64 → min (count + values_from layout left (drop index items)) (2 ^ 64 - 1) ≡ total → count ≡ total
all_counted layout left items count index total within small e =
    let h : min (count + values_from layout left []) (2 ^ 64 - 1) ≡ total = subst (λ (xs : List Item). min (count + values_from layout left xs) (2 ^ 64 - 1) ≡ total) (none_left items index within) e in
    omega (arith, h)
