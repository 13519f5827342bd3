-- The entries of an order, one after another.
use Rattle.std.proofs.Common.{◌≡◌, ℕ, suc, ◌+◌, ◌<◌, List, [], ◌∷◌, ◌++◌, length, drop, get_or, Option, Some, None, Ok, refl, sym, ap, ◌∙◌, add-one, drop-cons, append_assoc}
use Rattle.std.specs.Prelude.{option_map}
use Rattle.json.specs.Value.{value_view, items_view}
use Rattle.json.specs.declared.value.Value.{Value}
use Rattle.dm_meta.specs.declared.lock.Entry.{Entry}
use Rattle.dm_meta.specs.Texts.{◌>>=◌, entry_in, entries_in, or_not_meta}

-- what was read, and what the values behind it say
abbrev pub with_front : List Entry → Option (List Entry) → Option (List Entry)
with_front made more = option_map (λ entries. made ++ entries) more

read_told : (read : Option Entry) (entry : Entry) → Ok entry ≡ or_not_meta read → read ≡ Some entry
read_told None entry told = cc
read_told (Some other) entry told = cc

moved : (made : List Entry) (entry : Entry) (more : Option (List Entry)) → with_front made (more >>= λ entries. Some (entry ∷ entries)) ≡ with_front (made ++ entry ∷ []) more
moved made entry None = refl
moved made entry (Some entries) = ap Some (sym (append_assoc made (entry ∷ []) entries))

module _ {A : Type 0} (values : List (Value A)) (i : ℕ) (value : Value A) (within : i < length values) (here : value ≡ get_or values i value) where
  behind : drop i values ≡ value ∷ drop (i + 1) values
  behind = rw add-one (drop-cons values i value within ∙ ap (λ v. v ∷ drop (suc i) values) (sym here))

  pub one_more : (made more : List Entry) (entry : Entry) → Ok entry ≡ or_not_meta (entry_in (value_view value)) → more ≡ made ++ entry ∷ [] → with_front made (entries_in (items_view (drop i values))) ≡ entries_in (items_view values)
      → with_front more (entries_in (items_view (drop (i + 1) values))) ≡ entries_in (items_view values)
  one_more made more entry told more_is known =
      rw more_is (sym (moved made entry (entries_in (items_view (drop (i + 1) values)))) ∙ (rw (behind, read_told (entry_in (value_view value)) entry told) at known))
