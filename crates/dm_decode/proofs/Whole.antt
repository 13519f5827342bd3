-- A whole row: its columns' types, its bitmap and its values.
use Rattle.std.proofs.Common.{◌≡◌, ℕ, Bool, true, false, eqb, ◌==◌, List, length, Result, Ok, Err, Option, Some, None, refl, sym, ap, ◌∙◌, arith}
use Rattle.std.specs.Bool.{⊤, MatchBool}
use Rattle.std.specs.List.{zip}
use Rattle.std.specs.Option.{option_map}
use Rattle.std.proofs.lemmas.Bool.{eq-eqb, eqb-true}
use Rattle.std.proofs.lemmas.Slice.Zip.{length-zip}
use Rattle.dm_value.specs.declared.value.Value.{Value}
use Rattle.dm_schema.specs.declared.column.Column.{Column}
use Rattle.dm_schema.specs.Layout.{Layout}
use Rattle.dm_base.specs.Reading.{Reading, piece}
use Rattle.dm_binlog.specs.declared.bodies.ColumnMap.{ColumnMap}
use Rattle.dm_binlog.specs.Bodies.{bitmap_length}
use Rattle.dm_list.specs.Answer.{Answers}
use Rattle.dm_decode.specs.declared.fault.RowFault.{RowFault}
use Rattle.dm_decode.specs.declared.fault.RowFault.TheVariants as fault
use Rattle.dm_decode.specs.Rows.{Place, differing, is_memory, row_of, taken, typed_row, values_behind, values_from}

other_count : (a b : ℕ) → (a ≡ b → ⊥) → (a == b) ≡ false
other_count a b other = by (eqb a b) refl where
  by : (same : Bool) → eqb a b ≡ same → same ≡ false
  by true e = absurd (other (eqb-true a b e))
  by false e = refl

pub wrong_count : (maps : List ColumnMap) (layout : Layout) (bytes : List ℕ) → (length maps ≡ length layout.columns → ⊥) → Err fault.Count ≡ row_of maps layout bytes
unfolding row_of
wrong_count maps layout bytes other = rw (other_count (length maps) (length layout.columns) other) refl

typed : (maps : List ColumnMap) (layout : Layout) (bytes : List ℕ) → length maps ≡ length layout.columns
    → row_of maps layout bytes ≡ taken (typed_row (zip layout.columns maps) (differing (zip layout.columns maps)) bytes)
unfolding row_of
typed maps layout bytes same = rw (eq-eqb (length maps) (length layout.columns) same) refl

zip_long : (columns : List Column) (maps : List ColumnMap) → length maps ≡ length columns → length (zip columns maps) ≡ length columns
zip_long columns maps same = omega (arith, length-zip columns maps)

pub other_type : (maps : List ColumnMap) (layout : Layout) (bytes : List ℕ) (column : Column) → length maps ≡ length layout.columns
    → Some column ≡ option_map (λ p. p.0) (differing (zip layout.columns maps)) → Err (fault.TypeDiffers column.name) ≡ row_of maps layout bytes
other_type maps layout bytes column same found = by (differing (zip layout.columns maps)) refl found where
  by : (o : Option Place) → differing (zip layout.columns maps) ≡ o → Some column ≡ option_map (λ p. p.0) o → Err (fault.TypeDiffers column.name) ≡ row_of maps layout bytes
  by None e f = absurd cc
  by (Some p) e f =
      let it : column ≡ p.0 = cc in
      rw it (sym (typed maps layout bytes same ∙ ap (λ o. taken (typed_row (zip layout.columns maps) o bytes)) e))

none_differs : (o : Option Place) → None ≡ option_map (λ p. p.0) o → o ≡ None
none_differs None e = refl
none_differs (Some p) e = absurd cc

behind : (maps : List ColumnMap) (layout : Layout) (bytes : List ℕ) (count : ℕ) → length maps ≡ length layout.columns → None ≡ option_map (λ p. p.0) (differing (zip layout.columns maps)) → count ≡ bitmap_length (length layout.columns)
    → row_of maps layout bytes ≡ taken (values_behind (zip layout.columns maps) (piece count (record { bytes = bytes; place = 0 })))
behind maps layout bytes count same none count_is =
    typed maps layout bytes same
    ∙ rw (none_differs (differing (zip layout.columns maps)) none, zip_long layout.columns maps same, ← count_is) refl

pub too_short : (maps : List ColumnMap) (layout : Layout) (bytes : List ℕ) (count : ℕ) (start : Reading) → length maps ≡ length layout.columns → None ≡ option_map (λ p. p.0) (differing (zip layout.columns maps)) → count ≡ bitmap_length (length layout.columns)
    → start ≡ record { bytes = bytes; place = 0 } → piece count start ≡ None → Err fault.Short ≡ row_of maps layout bytes
too_short maps layout bytes count start same none count_is start_is short =
    sym (behind maps layout bytes count same none count_is ∙ ap (λ o. taken (values_behind (zip layout.columns maps) o)) (ap (piece count) (sym start_is) ∙ short))

pub values_there : (maps : List ColumnMap) (layout : Layout) (bytes : List ℕ) (count : ℕ) (start after : Reading) (nulls : List ℕ) → length maps ≡ length layout.columns → None ≡ option_map (λ p. p.0) (differing (zip layout.columns maps)) → count ≡ bitmap_length (length layout.columns)
    → start ≡ record { bytes = bytes; place = 0 } → piece count start ≡ Some (nulls, after) → row_of maps layout bytes ≡ taken (values_from nulls 0 (zip layout.columns maps) after)
values_there maps layout bytes count start after nulls same none count_is start_is there =
    behind maps layout bytes count same none count_is ∙ ap (λ o. taken (values_behind (zip layout.columns maps) o)) (ap (piece count) (sym start_is) ∙ there)

pub no_row : (row : Result (List Value × ℕ) RowFault) (read : Result (List Value × Reading) RowFault) (result : Result (List Value × ℕ) RowFault) (e : RowFault)
    → row ≡ taken read → MatchBool (is_memory e) ⊤ (read ≡ Err e) → result ≡ Err e → Answers is_memory result row
no_row row read result e row_is told result_is = rw result_is (by (is_memory e) told) where
  by : (free : Bool) → MatchBool free ⊤ (read ≡ Err e) → MatchBool free ⊤ (Err e ≡ row)
  by true h = h
  by false h = sym (row_is ∙ ap taken h)

pub whole_row : (row : Result (List Value × ℕ) RowFault) (read : Result (List Value × Reading) RowFault) (values : List Value) (after : Reading) (place : ℕ)
    → row ≡ taken read → read ≡ Ok (values, after) → place ≡ after.place → Ok (values, place) ≡ row
whole_row row read values after place row_is read_is place_is = ap (λ n. Ok (values, n)) place_is ∙ sym (row_is ∙ ap taken read_is)
