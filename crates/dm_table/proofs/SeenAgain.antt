-- Two rows agree in a unique key where one is seen again that was seen before.
use Rattle.std.proofs.Common.{◌≡◌, Bool, true, false, cond, not, ◌&&◌, ◌||◌, List, [], ◌∷◌, map, Option, Some, None, is_some, refl, sym, ap, ◌∙◌}
use Rattle.std.specs.Prelude.{T}
use Rattle.std.specs.List.{list_any}
use Rattle.std.specs.FinMap as fin
use Rattle.std.specs.FinMap.{get-insert, get-empty, entries_sorted}
use Rattle.std.specs.FinMap.Entries.{is_sorted, below_all}
use Rattle.dm_value.specs.Order.{row_cmp}
use Rattle.dm_value.proofs.OrderLemmas.{row_total}
use Rattle.dm_schema.specs.declared.column.Column.{Column}
use Rattle.dm_schema.specs.declared.column.UniqueKey.{UniqueKey}
use Rattle.dm_schema.specs.Kinds.{is_null}
use Rattle.dm_table.specs.Contents.{Row, RowMap, same_row, agree_in}
use Rattle.dm_table.specs.Alterations.{is_shared}
use Rattle.dm_table.specs.Seeing.{under, has_values, seen_again, IsNoted}
use Rattle.dm_table.proofs.ListTests.{list_any-map}
use Rattle.dm_table.proofs.Entries.{first, second, other_if_less}
use Rattle.dm_table.proofs.Filtered.{same_is_same, same_turned, same_itself}
use Rattle.dm_table.proofs.KeptRows.{agree_turned}

any_alike : {A : Type 0} (f g : A → Bool) → ((x : A) → f x ≡ g x) → (xs : List A) → list_any f xs ≡ list_any g xs
any_alike f g same [] = refl
any_alike f g same (x ∷ xs) = ap (λ b. b || list_any f xs) (same x) ∙ ap (λ b. g x || b) (any_alike f g same xs)

any_never : {A : Type 0} (xs : List A) → list_any (λ x. false) xs ≡ false
any_never [] = refl
any_never (x ∷ xs) = any_never xs

any_either : {A : Type 0} (f g : A → Bool) (xs : List A) → list_any (λ x. f x || g x) xs ≡ (list_any f xs || list_any g xs)
any_either f g [] = refl
any_either f g (x ∷ xs) = ap (λ b. (f x || g x) || b) (any_either f g xs) ∙ by (f x) (g x) (list_any f xs) (list_any g xs) where
  by : (a b c d : Bool) → ((a || b) || (c || d)) ≡ ((a || c) || (b || d))
  by true b c d = refl
  by false true true d = refl
  by false true false d = refl
  by false false c d = refl

same_bool : (a b : Bool) → (a ≡ true → b ≡ true) → (b ≡ true → a ≡ true) → a ≡ b
same_bool true b f g = sym (f refl)
same_bool false true f g = g refl
same_bool false false f g = refl

module _ (key : UniqueKey) (columns : List Column) where
  abbrev agree : Row → Row → Bool
  agree a b = agree_in key columns a b

  agree_either_way : (a b : Row) → agree a b ≡ agree b a
  agree_either_way a b = same_bool (agree a b) (agree b a) (agree_turned key columns a b) (agree_turned key columns b a)

  -- a row agrees with a later one
  abbrev clash : List Row → Bool
  clash [] = false
  clash (row ∷ rows) = list_any (agree row) rows || clash rows

  abbrev sees : (Row → Bool) → Row → Bool
  sees seen row = has_values key columns row && seen (under key columns row)

  with_one : (seen : Row → Bool) (row : Row) → has_values key columns row ≡ true → (other : Row) → sees (λ values. seen values || same_row values (under key columns row)) other ≡ (sees seen other || agree row other)
  with_one seen row has other = by (has_values key columns other) (seen (under key columns other)) (same_row (under key columns other) (under key columns row)) refl refl ∙ ap (λ b. sees seen other || (b && same_row (under key columns row) (under key columns other))) (sym has) where
    by : (h s t : Bool) → has_values key columns other ≡ h → same_row (under key columns other) (under key columns row) ≡ t → (h && (s || t)) ≡ ((h && s) || same_row (under key columns row) (under key columns other))
    by true s t told same = ap (λ b. s || b) (sym same ∙ same_turned (under key columns other) (under key columns row))
    by false s true told same =
        let equal = same_is_same (under key columns other) (under key columns row) same in
        let both : true ≡ false = sym has ∙ ap (λ (v : Row). not (list_any is_null v)) (sym equal) ∙ told in absurd (cc both)
    by false s false told same = sym same ∙ same_turned (under key columns other) (under key columns row)

  again_is : (seen : Row → Bool) (rows : List Row) → seen_again key columns seen rows ≡ (list_any (sees seen) rows || clash rows)
  again_is seen [] = refl
  again_is seen (row ∷ rows) = by (has_values key columns row) refl (again_is seen rows) (again_is (λ values. seen values || same_row values (under key columns row)) rows) where
    by : (h : Bool) → has_values key columns row ≡ h → seen_again key columns seen rows ≡ (list_any (sees seen) rows || clash rows)
        → seen_again key columns (λ values. seen values || same_row values (under key columns row)) rows ≡ (list_any (sees (λ values. seen values || same_row values (under key columns row))) rows || clash rows)
        → cond h (seen (under key columns row) || seen_again key columns (λ values. seen values || same_row values (under key columns row)) rows) (seen_again key columns seen rows)
        ≡ (((h && seen (under key columns row)) || list_any (sees seen) rows) || (list_any (λ other. h && same_row (under key columns row) (under key columns other)) rows || clash rows))
    by false has rest more = rest ∙ ap (λ b. list_any (sees seen) rows || (b || clash rows)) (sym (any_never rows))
    by true has rest more =
        ap (λ b. seen (under key columns row) || b) (more
        ∙ ap (λ b. b || clash rows) (any_alike (sees (λ values. seen values || same_row values (under key columns row))) (λ other. sees seen other || agree row other) (with_one seen row has) rows ∙ any_either (sees seen) (agree row) rows))
        ∙ ap (λ b. seen (under key columns row) || ((list_any (sees seen) rows || b) || clash rows)) (any_alike (agree row) (λ other. same_row (under key columns row) (under key columns other)) (λ other. ap (λ b. b && same_row (under key columns row) (under key columns other)) has) rows)
        ∙ grouped (seen (under key columns row)) (list_any (sees seen) rows) (list_any (λ other. same_row (under key columns row) (under key columns other)) rows) (clash rows) where
          grouped : (a b c d : Bool) → (a || ((b || c) || d)) ≡ ((a || b) || (c || d))
          grouped true b c d = refl
          grouped false true c d = refl
          grouped false false c d = refl

  -- Entries in order have different keys.

  apart_below : (k : Row) (a : Row) (es : List (Row × Row)) → T (below_all row_cmp k es) → list_any (λ e. not (same_row k e.0) && agree a e.1) es ≡ list_any (λ e. agree a e.1) es
  apart_below k a [] h = refl
  apart_below k a (e ∷ es) h = ap (λ b. (not b && agree a e.1) || list_any (λ e. not (same_row k e.0) && agree a e.1) es) (other_if_less (row_cmp k e.0) (first _ _ h)) ∙ ap (λ b. agree a e.1 || b) (apart_below k a es (second _ _ h))

  abbrev pairs : List (Row × Row) → List (Row × Row) → Bool
  pairs xs ys = list_any (λ a. list_any (λ b. not (same_row a.0 b.0) && agree a.1 b.1) ys) xs

  pairs_clash : (es : List (Row × Row)) → T (is_sorted row_cmp es) → pairs es es ≡ clash (map (λ e. e.1) es)
  pairs_clash [] h = refl
  pairs_clash (e ∷ es) h =
      ap (λ b. ((not b && agree e.1 e.1) || list_any (λ b. not (same_row e.0 b.0) && agree e.1 b.1) es) || pairs es (e ∷ es)) (same_itself e.0)
      ∙ ap (λ b. b || pairs es (e ∷ es)) (apart_below e.0 e.1 es (first _ _ h))
      ∙ ap (λ b. list_any (λ b. agree e.1 b.1) es || b) (any_either (λ a. not (same_row a.0 e.0) && agree a.1 e.1) (λ a. list_any (λ b. not (same_row a.0 b.0) && agree a.1 b.1) es) es)
      ∙ ap (λ b. list_any (λ b. agree e.1 b.1) es || (b || pairs es es))
      (any_alike (λ a. not (same_row a.0 e.0) && agree a.1 e.1) (λ a. not (same_row e.0 a.0) && agree e.1 a.1) (λ a. ap (λ b. not b && agree a.1 e.1) (same_turned a.0 e.0) ∙ ap (λ b. not (same_row e.0 a.0) && b) (agree_either_way a.1 e.1)) es
      ∙ apart_below e.0 e.1 es (first _ _ h))
      ∙ twice (list_any (λ b. agree e.1 b.1) es) (pairs es es)
      ∙ ap (λ b. b || pairs es es) (sym (list_any-map (agree e.1) (λ (e : Row × Row). e.1) es)) ∙ ap (λ b. list_any (agree e.1) (map (λ e. e.1) es) || b) (pairs_clash es (second _ _ h)) where
        twice : (a b : Bool) → (a || (a || b)) ≡ (a || b)
        twice true b = refl
        twice false b = refl

  -- what a loop begins with
  pub seen_begin : (rows noted : RowMap) → noted ≡ fin.empty → seen_again key columns (λ values. is_some (fin.get noted values)) (fin.values rows) ≡ is_shared key columns rows
  seen_begin rows noted none =
      ap (λ (m : RowMap). seen_again key columns (λ values. is_some (fin.get m values)) (fin.values rows)) none
      ∙ again_is (λ values. is_some (fin.get (fin.empty {R = row_cmp}) values)) (fin.values rows)
      ∙ ap (λ b. b || clash (fin.values rows)) (any_alike (sees (λ values. is_some (fin.get (fin.empty {X = Row} {R = row_cmp}) values))) (λ row. false) (λ row. ap (λ o. has_values key columns row && is_some o) (get-empty row_cmp (under key columns row)) ∙ nothing (has_values key columns row)) (fin.values rows)
      ∙ any_never (fin.values rows))
      ∙ sym (pairs_clash (fin.entries rows) (entries_sorted rows)) where
        nothing : (b : Bool) → (b && false) ≡ false
        nothing true = refl
        nothing false = refl

  -- values that are noted
  seen_one : (noted now : RowMap) (row values held : Row) (rest : List Row) → values ≡ under key columns row → has_values key columns row ≡ true → is_some (fin.get noted values) ≡ false → now ≡ fin.insert noted values held
      → seen_again key columns (λ values. is_some (fin.get noted values)) (row ∷ rest) ≡ seen_again key columns (λ values. is_some (fin.get now values)) rest
  seen_one noted now row values held rest is has new put =
      ap (λ b. cond b (is_some (fin.get noted (under key columns row)) || seen_again key columns (λ q. is_some (fin.get noted q) || same_row q (under key columns row)) rest) (seen_again key columns (λ q. is_some (fin.get noted q)) rest)) has
      ∙ ap (λ b. b || seen_again key columns (λ q. is_some (fin.get noted q) || same_row q (under key columns row)) rest) (ap (λ (v : Row). is_some (fin.get noted v)) (sym is) ∙ new)
      ∙ ap (λ (seen : Row → Bool). seen_again key columns seen rest) (λ i q. alike q i) where
        by : (b : Bool) (o : Option Row) → (is_some o || b) ≡ is_some (cond b (Some held) o)
        by true None = refl
        by true (Some x) = refl
        by false None = refl
        by false (Some x) = refl

        alike : (q : Row) → (is_some (fin.get noted q) || same_row q (under key columns row)) ≡ is_some (fin.get now q)
        alike q = ap (λ (v : Row). is_some (fin.get noted q) || same_row q v) (sym is) ∙ by (same_row q values) (fin.get noted q) ∙ ap is_some (sym (get-insert row_total noted values held q)) ∙ ap (λ (m : RowMap). is_some (fin.get m q)) (sym put)

  seen_before : (noted : RowMap) (row values : Row) (rest : List Row) → values ≡ under key columns row → has_values key columns row ≡ true → is_some (fin.get noted values) ≡ true → seen_again key columns (λ values. is_some (fin.get noted values)) (row ∷ rest) ≡ true
  seen_before noted row values rest is has old =
      ap (λ b. cond b (is_some (fin.get noted (under key columns row)) || seen_again key columns (λ q. is_some (fin.get noted q) || same_row q (under key columns row)) rest) (seen_again key columns (λ q. is_some (fin.get noted q)) rest)) has
      ∙ ap (λ b. b || seen_again key columns (λ q. is_some (fin.get noted q) || same_row q (under key columns row)) rest) (ap (λ (v : Row). is_some (fin.get noted v)) (sym is) ∙ old)

  -- what a step of a loop over rows says
  pub seen_noted : (noted now : RowMap) (row values : Row) (again : Bool) (rest : List Row) → values ≡ under key columns row → has_values key columns row ≡ true → IsNoted noted values again now
      → seen_again key columns (λ values. is_some (fin.get noted values)) (row ∷ rest) ≡ cond again true (seen_again key columns (λ values. is_some (fin.get now values)) rest)
  seen_noted noted now row values true rest is has told = seen_before noted row values rest is has (sym told.before)
  seen_noted noted now row values false rest is has told = seen_one noted now row values values rest is has (sym told.before) (told.noted refl)
