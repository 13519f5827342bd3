-- Laws of what is printed: of dumps that don't clash each row is in the map under its key, and as many rows are printed as
-- the dumps have.
use Rattle.std.proofs.Common.{◌≡◌, ◌+◌, Bool, true, false, cond, List, [], ◌∷◌, ◌++◌, length, fold, Some, refl, sym, ap, ◌∙◌, append_assoc, append-nil}
use Rattle.std.specs.FinMap as fin
use Rattle.std.specs.FinMap.{FinMap, contains_key-keys, get-insert, len-empty, len-entries, len-insert}
use Rattle.std.specs.List.{list_any}
use Rattle.std.proofs.lemmas.Bool.{or_parts}
use Rattle.std.proofs.lemmas.Cmp.{eq_by_cmp_equiv}
use Rattle.std.proofs.lemmas.List.{length-append}
use Rattle.std.proofs.lemmas.List.Sums.{fold-append}
use Rattle.std.proofs.lemmas.Map.Entries.{length-values_of}
use Rattle.dm_value.specs.Order.{row_cmp}
use Rattle.dm_value.proofs.OrderLemmas.{row_total}
use Rattle.dm_schema.specs.Layout.{Layout}
use Rattle.dm_schema.specs.Names.{repeats}
use Rattle.dm_top.specs.Rows.{Row, Entry, Said, all_entries}
use Rattle.dm_top.specs.Load.{same_row, keys_of, map_of, clash, rows_by_key}
use Rattle.dm_top.proofs.Merging.{key_is_there, repeats_there}

-- what is inserted under other keys changes nothing of a key
others_stay : (q : Row) (es : List Entry) (m : FinMap row_cmp Row) → list_any (same_row q) (keys_of es) ≡ false → fin.get (fold (λ n e. fin.insert n e.0 e.1) m es) q ≡ fin.get m q
others_stay q [] m apart = refl
others_stay q (e ∷ es) m apart =
    let (here, later) = or_parts (same_row q e.0) (list_any (same_row q) (keys_of es)) apart in
    others_stay q es (fin.insert m e.0 e.1) later ∙ get-insert row_total m e.0 e.1 q ∙ ap (λ same. cond same (Some e.1) (fin.get m q)) here

later_differ : (before : List Entry) (e : Entry) (more : List Entry) → repeats same_row (keys_of (before ++ e ∷ more)) ≡ false → list_any (same_row e.0) (keys_of more) ≡ false
later_differ [] e more apart = (or_parts _ _ apart).0
later_differ (first ∷ before) e more apart = later_differ before e more ((or_parts _ _ apart).1)

-- where no key repeats, each entry's row is in the map under its key
pub each_row_is_there : (before : List Entry) (e : Entry) (more : List Entry) → repeats same_row (keys_of (before ++ e ∷ more)) ≡ false → fin.get (map_of (before ++ e ∷ more)) e.0 ≡ Some e.1
each_row_is_there before e more apart =
    ap (λ (m : FinMap row_cmp Row). fin.get m e.0) (fold-append _ fin.empty before (e ∷ more))
    ∙ others_stay e.0 more (fin.insert (map_of before) e.0 e.1) (later_differ before e more apart)
    ∙ get-insert row_total (map_of before) e.0 e.1 e.0
    ∙ ap (λ same. cond same (Some e.1) (fin.get (map_of before) e.0)) ((eq_by_cmp_equiv row_total).refl e.0)

is_fresh : (before : List Entry) (e : Entry) (more : List Entry) → repeats same_row (keys_of (before ++ e ∷ more)) ≡ false → list_any (same_row e.0) (keys_of before) ≡ false
is_fresh before e more apart = by (list_any (same_row e.0) (keys_of before)) refl where
  by : (b : Bool) → list_any (same_row e.0) (keys_of before) ≡ b → b ≡ false
  by true known = let twice = repeats_there before e more known in cc
  by false known = refl

length_of_map : (before more : List Entry) → repeats same_row (keys_of (before ++ more)) ≡ false → fin.len (map_of before) ≡ length before → fin.len (map_of (before ++ more)) ≡ length (before ++ more)
length_of_map before [] apart so_far = ap (λ es. fin.len (map_of es)) (append-nil before) ∙ so_far ∙ ap length (sym (append-nil before))
length_of_map before (e ∷ more) apart so_far =
    let fresh : fin.contains_key (map_of before) e.0 ≡ false = contains_key-keys (map_of before) e.0 ∙ key_is_there e.0 before ∙ is_fresh before e more apart in
    let one : fin.len (map_of (before ++ e ∷ [])) ≡ length (before ++ e ∷ []) =
    ap fin.len (fold-append _ fin.empty before (e ∷ [])) ∙ len-insert row_total (map_of before) e.0 e.1
    ∙ ap (λ there. cond there (fin.len (map_of before)) (fin.len (map_of before) + 1)) fresh ∙ ap (λ n. n + 1) so_far ∙ sym (length-append before (e ∷ [])) in
    let regroup = append_assoc before (e ∷ []) more in
    ap (λ es. fin.len (map_of es)) (sym regroup)
    ∙ length_of_map (before ++ e ∷ []) more (ap (λ es. repeats same_row (keys_of es)) regroup ∙ apart) one ∙ ap length regroup

-- as many rows are printed as the dumps have
pub no_row_is_lost : (joined : Layout) (said : List Said) → clash joined (all_entries joined said) ≡ false → length (rows_by_key (all_entries joined said)) ≡ length (all_entries joined said)
no_row_is_lost joined said apart =
    length-values_of (fin.entries (map_of (all_entries joined said))) ∙ sym (len-entries (map_of (all_entries joined said)))
    ∙ length_of_map [] (all_entries joined said) ((or_parts _ _ apart).0) (len-empty row_cmp Row)
