-- An index that is made of all rows.
use Rattle.std.proofs.Common.{◌≡◌, Bool, true, false, cond, List, [], ◌∷◌, Some, refl, sym, ap, ◌∙◌, inl, inr}
use Rattle.std.specs.Prelude.{◌⊎◌, T}
use Rattle.std.specs.List.{list_any}
use Rattle.std.specs.FinMap as fin
use Rattle.std.specs.FinMap.{find, get-entries, entries_sorted}
use Rattle.std.specs.FinMap.Entries.{is_sorted}
use Rattle.dm_value.specs.Order.{row_cmp}
use Rattle.dm_schema.specs.Layout.{Layout}
use Rattle.dm_schema.specs.Schemas.{is_formed}
use Rattle.dm_join.proofs.Lists.{IsIn}
use Rattle.dm_table.specs.Contents.{Row, RowMap, AreRows, same_row}
use Rattle.dm_table.specs.Indexing.{Tells, entries_of, all_noted, indexed}
use Rattle.dm_table.proofs.Entries.{second}
use Rattle.dm_table.proofs.Filtered.{same_is_same, same_itself}
use Rattle.dm_table.proofs.Lookups.{behind_first}
use Rattle.dm_table.proofs.Told.{get-all_noted, common_entry}

-- what is found is an entry, and an entry is found
found_is_in : (es : List (Row × Row)) (k v : Row) → find row_cmp k es ≡ Some v → IsIn (k, v) es
found_is_in [] k v is = absurd (cc is)
found_is_in (e ∷ es) k v is = by (same_row k e.0) refl is (found_is_in es k v) where
  by : (b : Bool) → same_row k e.0 ≡ b → cond b (Some e.1) (find row_cmp k es) ≡ Some v → (find row_cmp k es ≡ Some v → IsIn (k, v) es) → IsIn (k, v) (e ∷ es)
  by true same h rest = let value : e.1 ≡ v = cc h in inl (ap (λ (q : Row). (q, e.1)) (sym (same_is_same k e.0 same)) ∙ ap (λ (r : Row). (k, r)) value)
  by false other h rest = inr (rest h)

in_is_found : (es : List (Row × Row)) (k v : Row) → T (is_sorted row_cmp es) → IsIn (k, v) es → find row_cmp k es ≡ Some v
in_is_found [] k v h among = absurd among
in_is_found (e ∷ es) k v h (inl is) =
    let key : e.0 ≡ k = ap (λ (p : Row × Row). p.0) is in
    let value : e.1 ≡ v = ap (λ (p : Row × Row). p.1) is in
    ap (λ b. cond b (Some e.1) (find row_cmp k es)) (ap (same_row k) key ∙ same_itself k) ∙ ap Some value
in_is_found (e ∷ es) k v h (inr among) = behind_first e es k v h (in_is_found es k v (second _ _ h) among)

module _ (layout : Layout) (rows : RowMap) (formed : is_formed layout ≡ true) (are : AreRows layout rows) where
  abbrev Stands : Row → Row → Type 0
  Stands place row = fin.get rows place ≡ Some row

  -- rows noted in turn, of which some were noted before
  noted_in_turn : (es : List (Row × Row)) (index : RowMap) (Noted : Row → Row → Type 0) → ((place row : Row) → Noted place row → Stands place row) → ((place row : Row) → IsIn (place, row) es → Stands place row)
      → ((place row entry : Row) → Noted place row → list_any (same_row entry) (entries_of layout row) ≡ true → fin.get index entry ≡ Some place)
      → (place row entry : Row) → Noted place row ⊎ IsIn (place, row) es → list_any (same_row entry) (entries_of layout row) ≡ true → fin.get (indexed layout es index) entry ≡ Some place
  noted_in_turn [] index Noted before left told place row entry (inl noted) among = told place row entry noted among
  noted_in_turn [] index Noted before left told place row entry (inr none) among = absurd none
  noted_in_turn (e ∷ es) index Noted before left told place row entry which among =
      noted_in_turn es (all_noted e.0 (entries_of layout e.1) index) (λ p r. Noted p r ⊎ (e ≡ (p, r))) stands (λ p r i. left p r (inr i)) told_now place row entry (moved which) among where
        stands : (p r : Row) → Noted p r ⊎ (e ≡ (p, r)) → Stands p r
        stands p r (inl n) = before p r n
        stands p r (inr is) = left p r (inl is)

        moved : Noted place row ⊎ IsIn (place, row) (e ∷ es) → (Noted place row ⊎ (e ≡ (place, row))) ⊎ IsIn (place, row) es
        moved (inl n) = inl (inl n)
        moved (inr (inl is)) = inl (inr is)
        moved (inr (inr i)) = inr i

        told_now : (p r q : Row) → Noted p r ⊎ (e ≡ (p, r)) → list_any (same_row q) (entries_of layout r) ≡ true → fin.get (all_noted e.0 (entries_of layout e.1) index) q ≡ Some p
        told_now p r q which of_r = get-all_noted e.0 (entries_of layout e.1) index q ∙ by (list_any (same_row q) (entries_of layout e.1)) refl which where
          by : (b : Bool) → list_any (same_row q) (entries_of layout e.1) ≡ b → Noted p r ⊎ (e ≡ (p, r)) → cond b (Some e.0) (fin.get index q) ≡ Some p
          by true of_e which =
              let shared = common_entry layout e.1 r q formed of_e of_r in
              ap Some (same_is_same e.0 p (are.apart e.0 p e.1 r (left e.0 e.1 (inl refl)) (stands p r which) shared))
          by false not_of_e (inl n) = told p r q n of_r
          by false not_of_e (inr is) = let row_is : e.1 ≡ r = ap (λ (x : Row × Row). x.1) is in absurd (cc (sym not_of_e ∙ ap (λ (x : Row). list_any (same_row q) (entries_of layout x)) row_is ∙ of_r))

  pub indexed_tells : (index : RowMap) → index ≡ indexed layout (fin.entries rows) fin.empty → Tells layout rows index
  indexed_tells index is place row entry stands among =
      ap (λ (m : RowMap). fin.get m entry) is
      ∙ noted_in_turn (fin.entries rows) fin.empty (λ p r. ⊥) (λ p r n. absurd n) (λ p r i. get-entries rows p ∙ in_is_found (fin.entries rows) p r (entries_sorted rows) i) (λ p r q n of_r. absurd n) place row entry
      (inr (found_is_in (fin.entries rows) place row (sym (get-entries rows place) ∙ stands))) among
