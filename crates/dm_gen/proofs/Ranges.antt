-- Lists that a loop over numbers fills, one more at a time.
use Rattle.std.proofs.Common.{◌≡◌, ℕ, zero, suc, ◌+◌, List, [], ◌∷◌, ◌++◌, map, refl, ap, sym, ◌∙◌, arith, add-one, add-zero, zero-add}
use Rattle.std.specs.List.{flat_map, range_with_len}
use Rattle.std.proofs.lemmas.List.{flat_map_more}
use Rattle.std.proofs.lemmas.List.FromFn.{map-range_with_len_more}
use Rattle.dm_gen.specs.declared.live_row.LiveRow.{LiveRow}
use Rattle.dm_gen.specs.Steps.{dumped_row, dumped_rows}

pub range_pushed : {X : Type 0} (f : ℕ → X) (count : ℕ) (before after : List X) (x : X) → before ≡ map f (range_with_len 0 count) → x ≡ f count → after ≡ before ++ x ∷ [] → after ≡ map f (range_with_len 0 (count + 1))
range_pushed f count before after x is here pushed =
    pushed ∙ (ap (λ xs. xs ++ x ∷ []) is ∙ (ap (λ y. map f (range_with_len 0 count) ++ y ∷ []) here ∙ sym (map-range_with_len_more f 0 count count (zero-add count))))

range_more : (from n : ℕ) → range_with_len from (suc n) ≡ range_with_len from n ++ (from + n) ∷ []
range_more from zero = ap (λ x. x ∷ []) (sym (add-zero from))
range_more from (suc n) =
    let behind : from + 1 + n ≡ from + suc n = omega arith in
    ap (λ xs. from ∷ xs) (range_more (from + 1) n ∙ ap (λ x. range_with_len (from + 1) n ++ x ∷ []) behind)

range_step : (n : ℕ) → range_with_len 0 (n + 1) ≡ range_with_len 0 n ++ n ∷ []
range_step n = ap (range_with_len 0) (add-one n) ∙ (range_more 0 n ∙ ap (λ x. range_with_len 0 n ++ x ∷ []) (zero-add n))

pub pieces_pushed : {X : Type 0} (f : ℕ → List X) (count : ℕ) (before after : List X) → before ≡ flat_map f (range_with_len 0 count) → after ≡ before ++ f count → after ≡ flat_map f (range_with_len 0 (count + 1))
pieces_pushed f count before after is pushed =
    pushed ∙ (ap (λ xs. xs ++ f count) is ∙ (flat_map_more f [] (range_with_len 0 count) count ∙ ap (flat_map f) (sym (range_step count))))

-- the rows of the dump

pub dumped_none : (source : ℕ) → dumped_rows source 0 ≡ []
unfolding dumped_rows
dumped_none source = refl

pub dumped_pushed : (source count : ℕ) (before after : List LiveRow) (row : LiveRow) → before ≡ dumped_rows source count → row ≡ dumped_row source count → after ≡ before ++ row ∷ [] → after ≡ dumped_rows source (count + 1)
unfolding dumped_rows
dumped_pushed source count before after row is here pushed = range_pushed (dumped_row source) count before after row is here pushed
