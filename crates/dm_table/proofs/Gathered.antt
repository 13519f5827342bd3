-- Loops that gather what a function gives of the elements of a list, and loops that go over a list's elements by value.
use Rattle.std.proofs.Common.{◌≡◌, ℕ, ◌+◌, ◌<◌, ◌≤◌, length, get_or, drop, List, [], ◌∷◌, ◌++◌, Option, Some, None, refl, sym, ap, ◌∙◌, append-nil}
use Rattle.std.specs.List.{filter_map, cons_option}
use Rattle.std.proofs.lemmas.List.{at_drop_more, append_assoc, drop_all}
use Rattle.std.specs.FinMap as fin
use Rattle.dm_table.specs.Contents.{Row, RowMap}
use Rattle.dm_table.specs.Indexing.{all_noted}

cons_option-append : {A : Type 0} (o : Option A) (xs : List A) → cons_option o [] ++ xs ≡ cons_option o xs
cons_option-append None xs = refl
cons_option-append (Some x) xs = refl

-- one more is gathered
pub gathers : {A B : Type 0} (f : A → Option B) (made now : List B) (xs : List A) (i : ℕ) (x : A) (o : Option B) (total : List B) → i < length xs → x ≡ get_or xs i x → o ≡ f x → now ≡ made ++ cons_option o []
    → made ++ filter_map f (drop i xs) ≡ total → now ++ filter_map f (drop (i + 1) xs) ≡ total
gathers f made now xs i x o total within here is put h =
    ap (λ ys. ys ++ filter_map f (drop (i + 1) xs)) put ∙ append_assoc made (cons_option o []) (filter_map f (drop (i + 1) xs)) ∙ ap (λ ys. made ++ ys) (cons_option-append o (filter_map f (drop (i + 1) xs)) ∙ ap (λ p. cons_option p (filter_map f (drop (i + 1) xs))) is)
    ∙ sym (ap (λ ys. made ++ ys) (at_drop_more (filter_map f) xs i x within ∙ ap (λ (y : _). filter_map f (y ∷ drop (i + 1) xs)) (sym here))) ∙ h

-- all are gathered
pub gathered : {A B : Type 0} (f : A → Option B) (made : List B) (xs : List A) (i : ℕ) → length xs ≤ i → made ++ filter_map f (drop i xs) ≡ filter_map f xs → made ≡ filter_map f xs
gathered f made xs i end h = sym (append-nil made) ∙ sym (ap (λ ys. made ++ filter_map f ys) (drop_all i xs end)) ∙ h

-- a place is noted under one more of the entries
pub notes : (place entry : Row) (before rest : List Row) (old new total : RowMap) (copy : Row) → before ≡ entry ∷ rest → copy ≡ place → new ≡ fin.insert old entry copy → all_noted place before old ≡ total → all_noted place rest new ≡ total
notes place entry before rest old new total copy is same put h =
    ap (all_noted place rest) (put ∙ ap (λ (p : Row). fin.insert old entry p) same) ∙ sym (ap (λ (es : List Row). all_noted place es old) is) ∙ h
