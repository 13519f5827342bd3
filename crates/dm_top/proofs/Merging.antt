-- Entries that are put into a map, one after another: which keys are there, and where one repeats.
use Rattle.std.proofs.Common.{◌≡◌, Bool, true, false, cond, ◌||◌, List, [], ◌∷◌, ◌++◌, map, fold, Option, Some, is_some, inl, inr, refl, sym, ap, ◌∙◌, append_assoc}
use Rattle.std.proofs.Math.Bool.{or-true, or-false}
use Rattle.std.proofs.lemmas.Bool.{or_left, or_right, or_cases}
use Rattle.std.proofs.lemmas.Cmp.{eq_by_cmp_equiv}
use Rattle.std.proofs.lemmas.List.{map-append}
use Rattle.std.proofs.lemmas.List.Folds.{list_any-append}
use Rattle.std.specs.declared.cmp.Ordering.{Ordering}
use Rattle.std.specs.Ordering.{eq_by_cmp}
use Rattle.std.specs.Cmp.{IsTotalOrder}
use Rattle.std.specs.FinMap as fin
use Rattle.std.specs.FinMap.{FinMap, contains_key-keys, get-empty, get-insert}
use Rattle.std.specs.List.{list_any}
use Rattle.dm_value.specs.Order.{row_cmp}
use Rattle.dm_value.proofs.OrderLemmas.{row_total}
use Rattle.dm_schema.specs.Names.{repeats}
use Rattle.dm_top.specs.Rows.{Row, Entry}
use Rattle.dm_top.specs.Load.{same_row, keys_of, map_of}

is_some_either : {X : Type 0} (b c : Bool) (x : X) (o : Option X) → (is_some (cond b (Some x) o) || c) ≡ (is_some o || (b || c))
is_some_either true c x o = sym (or-true (is_some o))
is_some_either false c x o = refl

-- a map has the keys that were inserted, and those that it had
pub has_inserted : {K X : Type 0} {R : K → K → Ordering} (o : IsTotalOrder R) (q : K) (es : List (K × X)) (m : FinMap R X)
    → is_some (fin.get (fold (λ n e. fin.insert n e.0 e.1) m es) q) ≡ (is_some (fin.get m q) || list_any (eq_by_cmp R q) (map (λ e. e.0) es))
has_inserted o q [] m = sym (or-false _)
has_inserted {R = R} o q (e ∷ es) m =
    has_inserted o q es (fin.insert m e.0 e.1) ∙ ap (λ value. is_some value || list_any (eq_by_cmp R q) (map (λ e. e.0) es)) (get-insert o m e.0 e.1 q) ∙ is_some_either (eq_by_cmp R q e.0) _ e.1 (fin.get m q)

pub key_is_there : (q : Row) (es : List Entry) → list_any (same_row q) (keys_of (fin.entries (map_of es))) ≡ list_any (same_row q) (keys_of es)
key_is_there q es =
    sym (contains_key-keys (map_of es) q) ∙ has_inserted row_total q es fin.empty ∙ ap (λ value. is_some value || list_any (same_row q) (keys_of es)) (get-empty row_cmp q)

regrouped : (a s t r : Bool) → ((a || (s || false)) || (t || r)) ≡ ((s || t) || (a || r))
regrouped true true t r = refl
regrouped true false true r = refl
regrouped true false false r = refl
regrouped false true t r = refl
regrouped false false t r = refl

-- a list with one more element repeats where it did, or has that element
repeats_push : {A : Type 0} (same : A → A → Bool) → ((x y : A) → same x y ≡ same y x) → (xs : List A) (y : A) → repeats same (xs ++ y ∷ []) ≡ (list_any (same y) xs || repeats same xs)
repeats_push same symm [] y = refl
repeats_push same symm (x ∷ xs) y =
    ap (λ b. b || repeats same (xs ++ y ∷ [])) (list_any-append (same x) xs (y ∷ []) ∙ ap (λ s. list_any (same x) xs || (s || false)) (symm x y))
    ∙ ap (λ r. (list_any (same x) xs || (same y x || false)) || r) (repeats_push same symm xs y) ∙ regrouped (list_any (same x) xs) (same y x) (list_any (same y) xs) (repeats same xs)

repeats_before : {A : Type 0} (same : A → A → Bool) (xs ys : List A) → repeats same xs ≡ true → repeats same (xs ++ ys) ≡ true
repeats_before same [] ys h = cc
repeats_before same (x ∷ xs) ys h =
    elim (or_cases (list_any (same x) xs) (repeats same xs) h) as (λ _. repeats same ((x ∷ xs) ++ ys) ≡ true) [
      | inl here ↦ or_left _ _ (list_any-append (same x) xs ys ∙ or_left _ _ here)
      | inr later ↦ or_right _ _ (repeats_before same xs ys later)
    ]

keys_push : (es : List Entry) (e : Entry) → repeats same_row (keys_of (es ++ e ∷ [])) ≡ (list_any (same_row e.0) (keys_of es) || repeats same_row (keys_of es))
keys_push es e = ap (repeats same_row) (map-append (λ e. e.0) es (e ∷ [])) ∙ repeats_push same_row ((eq_by_cmp_equiv row_total).symm) (keys_of es) e.0

pub repeats_there : (before : List Entry) (e : Entry) (more : List Entry) → list_any (same_row e.0) (keys_of before) ≡ true → repeats same_row (keys_of (before ++ e ∷ more)) ≡ true
repeats_there before e more known =
    ap (λ es. repeats same_row (keys_of es)) (sym (append_assoc before (e ∷ []) more)) ∙ ap (repeats same_row) (map-append (λ e. e.0) (before ++ e ∷ []) more)
    ∙ repeats_before same_row (keys_of (before ++ e ∷ [])) (keys_of more) (keys_push before e ∙ or_left _ _ known)
