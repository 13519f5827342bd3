-- The values of a row, one after another.
use Rattle.std.proofs.Common.{◌≡◌, ℕ, zero, suc, ◌+◌, ◌<◌, ◌≤◌, Bool, true, false, ◌&&◌, List, [], ◌∷◌, ◌++◌, length, drop, get_or, Result, Ok, Err, refl, sym, ap, ◌∙◌, arith, add-one, append_assoc, append-nil, drop-cons}
use Rattle.std.specs.Prelude.{⊤, IsTrue}
use Rattle.std.specs.Bool.{MatchBool}
use Rattle.std.specs.List.{list_all, zip}
use Rattle.std.proofs.lemmas.List.{drop_all}
use Rattle.std.proofs.lemmas.Slice.Zip.{get_or-zip, length-zip}
use Rattle.dm_schema.specs.declared.column.Column.{Column}
use Rattle.dm_schema.specs.Kinds.{is_column, is_folded, is_kind, is_rule}
use Rattle.dm_binlog.specs.declared.bodies.ColumnMap.{ColumnMap}
use Rattle.dm_value.specs.declared.value.Value.{Value}
use Rattle.dm_base.specs.Reading.{Reading}
use Rattle.dm_binlog.specs.Bodies.{is_set}
use Rattle.dm_decode.specs.declared.fault.RowFault.{RowFault}
use Rattle.dm_decode.specs.Rows.{Decodes, Place, is_memory, value_at, values_from, with_value}

-- the values so far, and those of what is left
abbrev pub with_values : List Value → Result (List Value × Reading) RowFault → Result (List Value × Reading) RowFault
with_values made (Ok rest) = Ok (made ++ rest.0, rest.1)
with_values made (Err e) = Err e

drop_at : (n : ℕ) (places : List Place) (p : Place) → n < length places → get_or places n p ≡ p → drop n places ≡ p ∷ drop (n + 1) places
drop_at n places p within here = rw add-one (drop-cons places n p within ∙ ap (λ q. q ∷ drop (suc n) places) here)

with_one : (made : List Value) (v : Value) (rest : Result (List Value × Reading) RowFault) → with_values (made ++ v ∷ []) rest ≡ with_values made (with_value v rest)
with_one made v (Ok rest) = rw append_assoc refl
with_one made v (Err e) = refl

pub next_value : (nulls : List ℕ) (n : ℕ) (places : List Place) (p : Place) (is_null : Bool) (made more : List Value) (v : Value) (before after : Reading) (all : Result (List Value × Reading) RowFault)
    → n < length places → get_or places n p ≡ p → is_null ≡ is_set nulls n → value_at p is_null before ≡ Ok (v, after) → more ≡ made ++ v ∷ []
    → with_values made (values_from nulls n (drop n places) before) ≡ all → with_values more (values_from nulls (n + 1) (drop (n + 1) places) after) ≡ all
next_value nulls n places p is_null made more v before after all within here null_is read more_is known =
    let read_here : value_at p (is_set nulls n) before ≡ Ok (v, after) = rw (← null_is) read in
    rw more_is (with_one made v (values_from nulls (n + 1) (drop (n + 1) places) after) ∙ (rw (drop_at n places p within here, read_here) at known))

pub bad_value : (nulls : List ℕ) (n : ℕ) (places : List Place) (p : Place) (is_null : Bool) (made : List Value) (e : RowFault) (before : Reading) (all : Result (List Value × Reading) RowFault)
    → n < length places → get_or places n p ≡ p → is_null ≡ is_set nulls n → value_at p is_null before ≡ Err e
    → with_values made (values_from nulls n (drop n places) before) ≡ all → all ≡ Err e
bad_value nulls n places p is_null made e before all within here null_is read known =
    let read_here : value_at p (is_set nulls n) before ≡ Err e = rw (← null_is) read in
    sym (rw (drop_at n places p within here, read_here) at known)

-- the same for what a call answers, which memory is free to end
pub bad_row : (nulls : List ℕ) (n : ℕ) (places : List Place) (p : Place) (is_null : Bool) (made : List Value) (e : RowFault) (before after : Reading) (all : Result (List Value × Reading) RowFault) (result : Result (List Value) RowFault)
    → n < length places → get_or places n p ≡ p → is_null ≡ is_set nulls n → MatchBool (is_memory e) ⊤ (value_at p is_null before ≡ Err e) → result ≡ Err e
    → with_values made (values_from nulls n (drop n places) before) ≡ all → Decodes all result after
bad_row nulls n places p is_null made e before after all result within here null_is told result_is known =
    rw result_is (by (is_memory e) told) where
      by : (free : Bool) → MatchBool free ⊤ (value_at p is_null before ≡ Err e) → MatchBool free ⊤ (all ≡ Err e)
      by true h = h
      by false h = bad_value nulls n places p is_null made e before all within here null_is h known

pub last_value : (nulls : List ℕ) (n : ℕ) (places : List Place) (made : List Value) (before : Reading) (all : Result (List Value × Reading) RowFault)
    → length places ≤ n → with_values made (values_from nulls n (drop n places) before) ≡ all → all ≡ Ok (made, before)
last_value nulls n places made before all end known = sym (rw (drop_all n places end, append-nil) at known)

-- the place that a column and its map are at
pub place_at : (columns : List Column) (maps : List ColumnMap) (n : ℕ) (column : Column) (m : ColumnMap)
    → (n < length columns) × (n < length maps) × ((d : Column) → column ≡ get_or columns n d) × ((d : ColumnMap) → m ≡ get_or maps n d)
    → (n < length (zip columns maps)) × (get_or (zip columns maps) n (column, m) ≡ (column, m))
place_at columns maps n column m turn = (
  omega (arith, length-zip columns maps, turn.0, turn.1),
  get_or-zip columns maps n (column, m) turn.0 turn.1 ∙ rw (← turn.2 column, ← turn.3 m) refl,
)

kind_of : (x : Column) (rest : Bool) → IsTrue (is_column x && rest) → IsTrue (is_kind x.kind)
kind_of x rest all = by (is_folded x.name) (is_kind x.kind) all where
  by : (folded kind : Bool) → IsTrue (folded && kind && is_rule x.default_rule && rest) → IsTrue kind
  by true true all = refl
  by true false all = all
  by false true all = refl
  by false false all = all

pub column_kind : (columns : List Column) (n : ℕ) (column : Column) → IsTrue (list_all is_column columns) → n < length columns → column ≡ get_or columns n column → IsTrue (is_kind column.kind)
column_kind [] n column all within here = absurd (omega arith)
column_kind (x ∷ xs) zero column all within here = rw here (kind_of x (list_all is_column xs) all)
column_kind (x ∷ xs) (suc n) column all within here = column_kind xs n column (rest_of (is_column x) (list_all is_column xs) all) (omega arith) here where
  rest_of : (one rest : Bool) → IsTrue (one && rest) → IsTrue rest
  rest_of true rest all = all
  rest_of false rest all = absurd cc
