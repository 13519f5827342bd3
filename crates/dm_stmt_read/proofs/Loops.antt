-- A loop that reads one value after another, turn by turn.
use Rattle.std.proofs.Common.{◌≡◌, ℕ, suc, ◌+◌, ◌-◌, ◌<◌, ◌≤◌, List, [], ◌∷◌, ◌++◌, length, map, drop, get_or, drop_of_length-le, Option, Some, None, Result, Ok, Err, refl, sym, ap, ◌∙◌, append_assoc, append-nil, arith}
use Rattle.std.proofs.lemmas.List.{drop_more}
use Rattle.std.specs.Result.{IsErrAnd}
use Rattle.std.proofs.lemmas.Result.{err_from_is_err_and}
use Rattle.dm_stmt_read.specs.declared.fault.RecordFault.{RecordFault}
use Rattle.dm_stmt_read.specs.declared.fault.RecordFault.TheVariants as fault
use Rattle.dm_stmt_read.specs.Readers.{Reader, Reads, and_then, just, before, ◌>>=◌, many, up_to, further, pairs_up_to, further_pairs, each}

with_made : {A : Type 0} → List A → Option (List A × List ℕ) → Option (List A × List ℕ)
with_made made o = and_then o (λ xs. just (made ++ xs))

with_more : {A : Type 0} (made : List A) (x : A) (o : Option (List A × List ℕ)) → with_made (made ++ x ∷ []) o ≡ with_made made (and_then o (λ xs. just (x ∷ xs)))
unfolding with_made
with_more made x None = refl
with_more made x (Some read) = ap (λ ys. Some (ys, read.1)) (append_assoc made (x ∷ []) read.0)

turn : {A : Type 0} (next : Reader (Option A)) (most : ℕ) (made : List A) (x : A) (left behind : List ℕ) → next left ≡ Some (Some x, behind) → up_to next (suc most) made left ≡ up_to next most (made ++ x ∷ []) behind
unfolding many with_made
turn next most made x left behind is =
    ap (λ o. with_made made (and_then o (before (many next most)))) is ∙ sym (with_more made x (many next most behind))

pub begins : {A : Type 0} (next : Reader (Option A)) (end : ℕ) (made : List A) (left : List ℕ) → end ≡ length left → up_to next (end - 0) made left ≡ further next made left
unfolding further
begins next end made left is = let same : end - 0 ≡ length left = omega (arith, is) in ap (λ n. up_to next n made left) same

pub one_more : {A : Type 0} (next : Reader (Option A)) (end counter : ℕ) (made more : List A) (o : Option A) (x : A) (left behind : List ℕ) (total : Option (List A × List ℕ))
    → counter < end → next left ≡ Some (o, behind) → o ≡ Some x → more ≡ made ++ x ∷ [] → up_to next (end - counter) made left ≡ total → up_to next (end - (counter + 1)) more behind ≡ total
one_more next end counter made more o x left behind total within is some grown so_far =
    let step : end - counter ≡ suc (end - (counter + 1)) = omega (arith, within) in
    ap (λ xs. up_to next (end - (counter + 1)) xs behind) grown
    ∙ sym (turn next (end - (counter + 1)) made x left behind (is ∙ ap (λ r. Some (r, behind)) some))
    ∙ ap (λ n. up_to next n made left) (sym step) ∙ so_far

stopped : {A : Type 0} (next : Reader (Option A)) (most : ℕ) (made : List A) (left behind : List ℕ) → next left ≡ Some (None, behind) → up_to next (suc most) made left ≡ Some (made, behind)
unfolding many with_made
stopped next most made left behind is =
    ap (λ o. with_made made (and_then o (before (many next most)))) is ∙ ap (λ xs. Some (xs, behind)) (append-nil made)

pub no_more : {A : Type 0} (next : Reader (Option A)) (end counter : ℕ) (made result : List A) (o : Option A) (left behind after : List ℕ) (total : Option (List A × List ℕ))
    → counter < end → next left ≡ Some (o, behind) → o ≡ None → result ≡ made → after ≡ behind → up_to next (end - counter) made left ≡ total → total ≡ Some (result, after)
no_more next end counter made result o left behind after total within is none same there so_far =
    let step : end - counter ≡ suc (end - (counter + 1)) = omega (arith, within) in
    sym so_far ∙ ap (λ n. up_to next n made left) step
    ∙ stopped next (end - (counter + 1)) made left behind (is ∙ ap (λ r. Some (r, behind)) none)
    ∙ (λ i. Some (sym same i, sym there i))

lost_here : {A : Type 0} (next : Reader (Option A)) (most : ℕ) (made : List A) (left : List ℕ) → next left ≡ None → up_to next (suc most) made left ≡ None
unfolding many with_made
lost_here next most made left is = ap (λ o. with_made made (and_then o (before (many next most)))) is

pub lost : {A : Type 0} (next : Reader (Option A)) (end counter : ℕ) (made : List A) (left : List ℕ) (total : Option (List A × List ℕ))
    → counter < end → next left ≡ None → up_to next (end - counter) made left ≡ total → total ≡ None
lost next end counter made left total within is so_far =
    let step : end - counter ≡ suc (end - (counter + 1)) = omega (arith, within) in
    sym so_far ∙ ap (λ n. up_to next n made left) step ∙ lost_here next (end - (counter + 1)) made left is

pub all_turns : {A : Type 0} (next : Reader (Option A)) (end counter : ℕ) (made result : List A) (left after : List ℕ) (total : Option (List A × List ℕ))
    → end ≤ counter → result ≡ made → after ≡ left → up_to next (end - counter) made left ≡ total → total ≡ Some (result, after)
unfolding many with_made
all_turns next end counter made result left after total past same there so_far =
    let none : end - counter ≡ 0 = omega (arith, past) in
    sym so_far ∙ ap (λ n. up_to next n made left) none
    ∙ (λ i. Some ((append-nil made ∙ sym same) i, sym there i))

-- Pairs.

with_pairs : {A B : Type 0} → List A → List B → Option (List (A × B) × List ℕ) → Option ((List A × List B) × List ℕ)
with_pairs xs ys o = and_then o (λ ps. just (xs ++ map (λ p. p.0) ps, ys ++ map (λ p. p.1) ps))

with_one_pair : {A B : Type 0} (xs : List A) (ys : List B) (x : A) (y : B) (o : Option (List (A × B) × List ℕ)) → with_pairs xs ys (and_then o (λ ps. just ((x, y) ∷ ps))) ≡ with_pairs (xs ++ x ∷ []) (ys ++ y ∷ []) o
unfolding with_pairs
with_one_pair xs ys x y None = refl
with_one_pair xs ys x y (Some read) =
    let first = sym (append_assoc xs (x ∷ []) (map (λ p. p.0) read.0)) in
    let second = sym (append_assoc ys (y ∷ []) (map (λ p. p.1) read.0)) in
    λ i. Some ((first i, second i), read.1)

pair_turn : {A B : Type 0} (next : Reader (Option (A × B))) (most : ℕ) (xs : List A) (ys : List B) (x : A) (y : B) (left behind : List ℕ) → next left ≡ Some (Some (x, y), behind)
    → pairs_up_to next (suc most) xs ys left ≡ pairs_up_to next most (xs ++ x ∷ []) (ys ++ y ∷ []) behind
unfolding many with_pairs
pair_turn next most xs ys x y left behind is =
    ap (λ o. with_pairs xs ys (and_then o (before (many next most)))) is ∙ with_one_pair xs ys x y (many next most behind)

pub pairs_begin : {A B : Type 0} (next : Reader (Option (A × B))) (end : ℕ) (xs : List A) (ys : List B) (left : List ℕ) → end ≡ length left → pairs_up_to next (end - 0) xs ys left ≡ further_pairs next xs ys left
unfolding further_pairs
pairs_begin next end xs ys left is = let same : end - 0 ≡ length left = omega (arith, is) in ap (λ n. pairs_up_to next n xs ys left) same

pub pair_more : {A B : Type 0} (next : Reader (Option (A × B))) (end counter : ℕ) (xs more : List A) (ys others : List B) (o : Option (A × B)) (x : A) (y : B) (left behind : List ℕ) (total : Option ((List A × List B) × List ℕ))
    → counter < end → next left ≡ Some (o, behind) → o ≡ Some (x, y) → more ≡ xs ++ x ∷ [] → others ≡ ys ++ y ∷ [] → pairs_up_to next (end - counter) xs ys left ≡ total → pairs_up_to next (end - (counter + 1)) more others behind ≡ total
pair_more next end counter xs more ys others o x y left behind total within is some grown grown_too so_far =
    let step : end - counter ≡ suc (end - (counter + 1)) = omega (arith, within) in
    (λ i. pairs_up_to next (end - (counter + 1)) (grown i) (grown_too i) behind)
    ∙ sym (pair_turn next (end - (counter + 1)) xs ys x y left behind (is ∙ ap (λ r. Some (r, behind)) some))
    ∙ ap (λ n. pairs_up_to next n xs ys left) (sym step) ∙ so_far

nothing_behind : {A B : Type 0} (xs : List A) (ys : List B) (left : List ℕ) → with_pairs xs ys (Some ([], left)) ≡ Some ((xs, ys), left)
unfolding with_pairs
nothing_behind xs ys left = λ i. Some ((append-nil xs i, append-nil ys i), left)

pub no_pair : {A B : Type 0} (next : Reader (Option (A × B))) (end counter : ℕ) (xs first : List A) (ys second : List B) (o : Option (A × B)) (left behind after : List ℕ) (total : Option ((List A × List B) × List ℕ))
    → counter < end → next left ≡ Some (o, behind) → o ≡ None → first ≡ xs → second ≡ ys → after ≡ behind → pairs_up_to next (end - counter) xs ys left ≡ total → total ≡ Some ((first, second), after)
unfolding many with_pairs
no_pair next end counter xs first ys second o left behind after total within is none same same_too there so_far =
    let step : end - counter ≡ suc (end - (counter + 1)) = omega (arith, within) in
    sym so_far ∙ ap (λ n. pairs_up_to next n xs ys left) step
    ∙ ap (λ r. with_pairs xs ys (and_then r (before (many next (end - (counter + 1)))))) (is ∙ ap (λ r. Some (r, behind)) none)
    ∙ nothing_behind xs ys behind ∙ (λ i. Some ((sym same i, sym same_too i), sym there i))

pub pairs_lost : {A B : Type 0} (next : Reader (Option (A × B))) (end counter : ℕ) (xs : List A) (ys : List B) (left : List ℕ) (total : Option ((List A × List B) × List ℕ))
    → counter < end → next left ≡ None → pairs_up_to next (end - counter) xs ys left ≡ total → total ≡ None
unfolding many with_pairs
pairs_lost next end counter xs ys left total within is so_far =
    let step : end - counter ≡ suc (end - (counter + 1)) = omega (arith, within) in
    sym so_far ∙ ap (λ n. pairs_up_to next n xs ys left) step
    ∙ ap (λ r. with_pairs xs ys (and_then r (before (many next (end - (counter + 1)))))) is

pub all_pairs : {A B : Type 0} (next : Reader (Option (A × B))) (end counter : ℕ) (xs first : List A) (ys second : List B) (left after : List ℕ) (total : Option ((List A × List B) × List ℕ))
    → end ≤ counter → first ≡ xs → second ≡ ys → after ≡ left → pairs_up_to next (end - counter) xs ys left ≡ total → total ≡ Some ((first, second), after)
unfolding many with_pairs
all_pairs next end counter xs first ys second left after total past same same_too there so_far =
    let none : end - counter ≡ 0 = omega (arith, past) in
    sym so_far ∙ ap (λ n. pairs_up_to next n xs ys left) none ∙ nothing_behind xs ys left ∙ (λ i. Some ((sym same i, sym same_too i), sym there i))

-- A value for each element.

pub each_begins : {A B : Type 0} (step : List ℕ → A → Reader B) (mark other : List ℕ) (xs : List A) (made : List B) (left : List ℕ) → made ≡ [] → and_then (each step mark other (drop 0 xs) left) (λ ys. just (made ++ ys)) ≡ each step mark other xs left
each_begins {A = A} {B = B} step mark other xs made left none = ap (λ ms. and_then (each step mark other xs left) (λ ys. just (ms ++ ys))) none ∙ by (each step mark other xs left) where
  by : (o : Option (List B × List ℕ)) → and_then o (λ ys. just ([] ++ ys)) ≡ o
  by None = refl
  by (Some read) = refl

pub each_more : {A B : Type 0} (step : List ℕ → A → Reader B) (mark other : List ℕ) (xs : List A) (place : ℕ) (x : A) (y : B) (made more : List B) (left behind : List ℕ) (total : Option (List B × List ℕ))
    → place < length xs → x ≡ get_or xs place x → step mark x left ≡ Some (y, behind) → more ≡ made ++ y ∷ [] → and_then (each step mark other (drop place xs) left) (λ ys. just (made ++ ys)) ≡ total
    → and_then (each step other other (drop (place + 1) xs) behind) (λ ys. just (more ++ ys)) ≡ total
unfolding each with_made
each_more step mark other xs place x y made more left behind total within here is grown so_far =
    let rest = each step other other (drop (place + 1) xs) behind in
    let cut : drop place xs ≡ x ∷ drop (place + 1) xs = drop_more xs place x within ∙ ap (λ z. z ∷ drop (place + 1) xs) (sym here) in
    ap (λ ms. with_made ms rest) grown ∙ with_more made y rest
    ∙ ap (λ o. with_made made (and_then o (λ z. each step other other (drop (place + 1) xs) >>= λ ys. just (z ∷ ys)))) (sym is)
    ∙ ap (λ zs. with_made made (each step mark other zs left)) (sym cut) ∙ so_far

pub each_lost : {A B : Type 0} (step : List ℕ → A → Reader B) (mark other : List ℕ) (xs : List A) (place : ℕ) (x : A) (made : List B) (left : List ℕ) (total : Option (List B × List ℕ))
    → place < length xs → x ≡ get_or xs place x → step mark x left ≡ None → and_then (each step mark other (drop place xs) left) (λ ys. just (made ++ ys)) ≡ total → total ≡ None
unfolding each with_made
each_lost step mark other xs place x made left total within here is so_far =
    let cut : drop place xs ≡ x ∷ drop (place + 1) xs = drop_more xs place x within ∙ ap (λ z. z ∷ drop (place + 1) xs) (sym here) in
    sym so_far ∙ ap (λ zs. with_made made (each step mark other zs left)) cut
    ∙ ap (λ o. with_made made (and_then o (λ z. each step other other (drop (place + 1) xs) >>= λ ys. just (z ∷ ys)))) is

pub each_ends : {A B : Type 0} (step : List ℕ → A → Reader B) (mark other : List ℕ) (xs : List A) (place : ℕ) (made result : List B) (left : List ℕ) (total : Option (List B × List ℕ))
    → length xs ≤ place → result ≡ made → and_then (each step mark other (drop place xs) left) (λ ys. just (made ++ ys)) ≡ total → total ≡ Some (result, left)
unfolding each with_made
each_ends step mark other xs place made result left total past same so_far =
    sym so_far ∙ ap (λ zs. with_made made (each step mark other zs left)) (drop_of_length-le xs past)
    ∙ ap (λ ys. Some (ys, left)) (append-nil made ∙ sym same)

-- The exit by `?`.

pub exits : {A : Type 0} (reader : Reader A) (before after : List ℕ) (answer : Result A RecordFault) (e : RecordFault) → IsErrAnd answer (λ given. given ≡ e) → (e ≡ fault.NotRecord → reader before ≡ None) → Reads reader before answer after
exits reader before after answer e is none =
    let p = err_from_is_err_and answer is in
    rw p.1 (λ same. none (sym p.2 ∙ same))

-- what is read as another reader reads it
pub reads_as : {A : Type 0} (reader other : Reader A) (before there after : List ℕ) (answer : Result A RecordFault) → reader before ≡ other there → Reads other there answer after → Reads reader before answer after
reads_as reader other before there after (Ok x) same reads = same ∙ reads
reads_as reader other before there after (Err e) same reads = λ is. same ∙ reads is
