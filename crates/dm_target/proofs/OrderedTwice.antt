-- A schema whose columns and keys are in order stays as it is when they are put in order.
use Rattle.std.proofs.Common.{◌≡◌, true, false, cond, List, [], ◌∷◌, refl, sym, ap, ◌∙◌, inl}
use Rattle.std.specs.declared.cmp.Ordering.{Ordering}
use Rattle.std.specs.declared.cmp.Ordering.TheVariants.{Less, Equal, Greater}
use Rattle.std.specs.Ordering.{is_lt, ordering_reverse}
use Rattle.std.proofs.lemmas.Bool.{true≢false}
use Rattle.dm_schema.specs.Layout.{Layout}
use Rattle.dm_schema.specs.Names.{Text, name_cmp, same_name}
use Rattle.dm_schema.specs.NameOrder.{columns_in_order, in_order_of, put_by, uniques_in_order}
use Rattle.dm_schema.specs.Schemas.{in_order, is_formed}
use Rattle.dm_schema.proofs.Laws.{IsInOrder, in_order_is_in_order}
use Rattle.dm_join.proofs.Formed.{formed_parts}
use Rattle.dm_join.proofs.JoinFormed.{unique_name}
use Rattle.dm_join.proofs.NameLemmas.{same_from}
use Rattle.dm_join.proofs.Orders.{AreApart, apart_from, apart_ordered, column_name}
use Rattle.dm_target.proofs.Orders.{name_exact, name_total}

-- of two names that are apart, one that isn't behind the other is before it
is_before : (a b : Text) → is_lt (name_cmp b a) ≡ false → same_name a b ≡ false → is_lt (name_cmp a b) ≡ true
is_before a b not_behind apart = by (name_cmp a b) refl where
  by : (o : Ordering) → name_cmp a b ≡ o → is_lt o ≡ true
  by Less e = refl
  by Equal e = absurd (true≢false (sym (same_from a b (name_exact a b e)) ∙ apart))
  by Greater e = absurd (true≢false (sym (ap is_lt (name_total.antisymm b a ∙ ap ordering_reverse e)) ∙ not_behind))

-- an element before the first is put there
put_first : {A : Type 0} (name : A → Text) (x y : A) (ys : List A) → is_lt (name_cmp (name x) (name y)) ≡ true → put_by name x (y ∷ ys) ≡ x ∷ y ∷ ys
put_first name x y ys before = ap (λ b. cond b (x ∷ y ∷ ys) (y ∷ put_by name x ys)) before

-- a list in order whose names are apart stays as it is
stays : {A : Type 0} (name : A → Text) (xs : List A) → IsInOrder name xs → AreApart name xs → in_order_of name xs ≡ xs
stays name [] h apart = refl
stays name (x ∷ []) h apart = refl
stays name (x ∷ y ∷ ys) h apart =
    ap (put_by name x) (stays name (y ∷ ys) h.1 apart.1) ∙ put_first name x y ys (is_before (name x) (name y) h.0 (apart.0 y (inl refl)))

twice : {A : Type 0} (name : A → Text) (xs : List A) → AreApart name xs → in_order_of name (in_order_of name xs) ≡ in_order_of name xs
twice name xs apart = stays name (in_order_of name xs) (in_order_is_in_order name xs) (apart_ordered name xs apart)

-- putting in order once is enough
pub in_order_twice : (l : Layout) → is_formed l ≡ true → in_order (in_order l) ≡ in_order l
in_order_twice l formed =
    let parts = formed_parts l formed in
    let columns = twice column_name l.columns (apart_from column_name l.columns parts.columns_apart) in
    let keys = twice unique_name l.uniques (apart_from unique_name l.uniques parts.keys_apart) in
    ap (λ cs. record { columns = cs; primary = l.primary; uniques = uniques_in_order (uniques_in_order l.uniques) }) columns
    ∙ ap (λ ks. record { columns = columns_in_order l.columns; primary = l.primary; uniques = ks }) keys
