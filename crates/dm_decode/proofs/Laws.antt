-- What a row that was read is: one value for each column, which fits it, from bytes that are there.
use Rattle.std.proofs.Common.{◌≡◌, ℕ, ◌+◌, ◌≤◌, Bool, true, false, not, cond, eqb, leb, List, [], ◌∷◌, length, take, Result, Ok, Err, Option, Some, None, refl, sym, ap, ◌∙◌, arith}
use Rattle.std.specs.List.{zip}
use Rattle.std.specs.Cmp.Lexicographic.{pointwise, as_long}
use Rattle.std.proofs.lemmas.Bool.{eqb-true, leb-true}
use Rattle.dm_value.specs.declared.value.Value.{Value}
use Rattle.dm_value.specs.declared.value.Value.TheVariants as value
use Rattle.dm_schema.specs.declared.column.Column.{Column}
use Rattle.dm_schema.specs.declared.column.Kind.{Kind}
use Rattle.dm_schema.specs.declared.column.Kind.TheVariants as kind
use Rattle.dm_schema.specs.Fits.{fits, fits_by, fits_kind}
use Rattle.dm_schema.specs.Layout.{Layout}
use Rattle.dm_base.specs.Reading.{Reading, left_of, le, le_value, piece}
use Rattle.dm_binlog.specs.declared.bodies.ColumnMap.{ColumnMap}
use Rattle.dm_binlog.specs.Bodies.{bitmap_length, is_set}
use Rattle.dm_decode.specs.declared.fault.RowFault.{RowFault}
use Rattle.dm_decode.specs.declared.fault.RowFault.TheVariants as fault
use Rattle.dm_decode.specs.declared.flaw.Flaw.{Flaw}
use Rattle.dm_decode.specs.Types.{prefix_width, string_length}
use Rattle.dm_decode.specs.Decimals.{decimal_width}
use Rattle.dm_decode.specs.Values.{fitting, fitting_value, fraction_width, prefixed, unfit_flaw, value_bytes, value_of}
use Rattle.dm_decode.specs.Rows.{Place, Read, and_rest, differing, from_bytes, row_of, taken, typed_row, value_at, values_behind, values_from, with_value}

-- The same bytes, and no place behind their end.
abbrev pub Keeps : Reading → Reading → Type 0
Keeps before after = (after.bytes ≡ before.bytes) × (before.place ≤ length before.bytes → after.place ≤ length after.bytes)

keeps_same : (r : Reading) → Keeps r r
keeps_same r = (refl, λ h. h)

keeps_both : (a b d : Reading) → Keeps a b → Keeps b d → Keeps a d
keeps_both a b d first second = (second.0 ∙ first.0, λ h. second.1 (first.1 h))

pair_some : {A B : Type 0} (p q : A × B) → Some p ≡ Some q → (p.0 ≡ q.0) × (p.1 ≡ q.1)
pair_some {A} {B} p q h =
    let e : p ≡ q = cc in
    (ap (λ (r : A × B). r.0) e, ap (λ (r : A × B). r.1) e)

pair_ok : {A B : Type 0} (p q : A × B) → ◌≡◌ {A = Result (A × B) RowFault} (Ok p) (Ok q) → (p.0 ≡ q.0) × (p.1 ≡ q.1)
pair_ok {A} {B} p q h =
    let e : p ≡ q = cc in
    (ap (λ (r : A × B). r.0) e, ap (λ (r : A × B). r.1) e)

piece_keeps : (count : ℕ) (before after : Reading) (bytes : List ℕ) → piece count before ≡ Some (bytes, after) → Keeps before after
piece_keeps count before after bytes h = by (leb (before.place + count) (length before.bytes)) refl h where
  by : (b : Bool) → leb (before.place + count) (length before.bytes) ≡ b
      → cond {A = Option (List ℕ × Reading)} b (Some (take count (left_of before), record { bytes = before.bytes; place = before.place + count })) None ≡ Some (bytes, after) → Keeps before after
  by true e same =
      let it = (pair_some {A = List ℕ} {B = Reading} (take count (left_of before), record { bytes = before.bytes; place = before.place + count }) (bytes, after) same).1 in
      rw (← it) (refl, λ _. leb-true _ _ e)
  by false e same = absurd cc

le_keeps : (width : ℕ) (before after : Reading) (n : ℕ) → le width before ≡ Some (n, after) → Keeps before after
le_keeps width before after n h = by (piece width before) refl h where
  by : (o : Option (List ℕ × Reading)) → piece width before ≡ o → le width before ≡ Some (n, after) → Keeps before after
  by None e same = absurd (let none : None ≡ Some (n, after) = rw e at same in cc)
  by (Some read) e same =
      let some : Some (le_value read.0, read.1) ≡ Some (n, after) = rw e at same in
      let it = (pair_some {A = ℕ} {B = Reading} (le_value read.0, read.1) (n, after) some).1 in
      piece_keeps width before after read.0 (rw (← it) e)

prefixed_keeps : (width : ℕ) (before after : Reading) (bytes : List ℕ) → prefixed width before ≡ Some (bytes, after) → Keeps before after
prefixed_keeps width before after bytes h = by (le width before) refl h where
  by : (o : Option (ℕ × Reading)) → le width before ≡ o → prefixed width before ≡ Some (bytes, after) → Keeps before after
  by None e same = absurd (let none : None ≡ Some (bytes, after) = rw e at same in cc)
  by (Some read) e same =
      let some : piece read.0 read.1 ≡ Some (bytes, after) = rw e at same in
      keeps_both before read.1 after (le_keeps width before read.1 read.0 e) (piece_keeps read.0 read.1 after bytes some)

value_bytes_keeps : (k : Kind) (m : ColumnMap) (before after : Reading) (bytes : List ℕ) → value_bytes k m before ≡ Some (bytes, after) → Keeps before after
value_bytes_keeps (kind.Signed size) m before after bytes h = piece_keeps size before after bytes h
value_bytes_keeps (kind.Unsigned size) m before after bytes h = piece_keeps size before after bytes h
value_bytes_keeps (kind.Decimal precision scale) m before after bytes h = piece_keeps (decimal_width precision scale) before after bytes h
value_bytes_keeps (kind.Char most) m before after bytes h = prefixed_keeps (prefix_width (string_length m.meta)) before after bytes h
value_bytes_keeps (kind.Varchar most) m before after bytes h = prefixed_keeps (prefix_width m.meta) before after bytes h
value_bytes_keeps (kind.Text prefix) m before after bytes h = prefixed_keeps prefix before after bytes h
value_bytes_keeps (kind.Binary size) m before after bytes h = prefixed_keeps (prefix_width (string_length m.meta)) before after bytes h
value_bytes_keeps (kind.Varbinary most) m before after bytes h = prefixed_keeps (prefix_width m.meta) before after bytes h
value_bytes_keeps (kind.Blob prefix) m before after bytes h = prefixed_keeps prefix before after bytes h
value_bytes_keeps kind.Date m before after bytes h = piece_keeps 3 before after bytes h
value_bytes_keeps kind.Year m before after bytes h = piece_keeps 1 before after bytes h
value_bytes_keeps (kind.Datetime digits) m before after bytes h = piece_keeps (5 + fraction_width digits) before after bytes h
value_bytes_keeps (kind.Timestamp digits) m before after bytes h = piece_keeps (4 + fraction_width digits) before after bytes h

null_unfit : (k : Kind) → fits_kind k value.Null ≡ false
null_unfit kind.Date = refl
null_unfit k = refl

fits_column : (k : Kind) (nullable : Bool) (v : Value) → fits_kind k v ≡ true → fits_by k nullable v ≡ true
fits_column k nullable value.Null h = absurd (let none : false ≡ true = sym (null_unfit k) ∙ h in cc)
fits_column k nullable (value.Int n) h = h
fits_column k nullable v h = h

fitting_fits : (unfit : Flaw) (k : Kind) (o : Result Value Flaw) (v : Value) → fitting unfit k o ≡ Ok v → fits_kind k v ≡ true
fitting_fits unfit k (Err e) v h = absurd cc
fitting_fits unfit k (Ok w) v h = by (fits_kind k w) refl h where
  by : (b : Bool) → fits_kind k w ≡ b → cond {A = Result Value Flaw} b (Ok w) (Err unfit) ≡ Ok v → fits_kind k v ≡ true
  by true e same = let it : w ≡ v = cc in rw (← it) e
  by false e same = absurd cc

-- a value that was read fits its column, and was there
abbrev IsRead : Column → Value → Reading → Reading → Type 0
IsRead column v before after = (fits v column ≡ true) × Keeps before after

from_bytes_read : (column : Column) (m : ColumnMap) (before after : Reading) (v : Value) (o : Option (List ℕ × Reading)) → value_bytes column.kind m before ≡ o → from_bytes column o ≡ Ok (v, after) → IsRead column v before after
from_bytes_read column m before after v None e h = absurd cc
from_bytes_read column m before after v (Some read) e h = by (fitting_value column.kind read.0) refl h where
  by : (o : Result Value Flaw) → fitting_value column.kind read.0 ≡ o → from_bytes column (Some read) ≡ Ok (v, after) → IsRead column v before after
  by (Err flaw) is same = absurd (let none = rw is at same in cc)
  by (Ok w) is same =
      let some : Ok (w, read.1) ≡ Ok (v, after) = rw is at same in
      let both = pair_ok {A = Value} {B = Reading} (w, read.1) (v, after) some in
      let there = both.1 in (
        fits_column column.kind column.nullable v (fitting_fits (unfit_flaw column.kind) column.kind (value_of column.kind read.0) v (is ∙ ap (λ x. Ok x) both.0)),
        value_bytes_keeps column.kind m before after read.0 (rw (← there) e),
      )

value_read : (column : Column) (m : ColumnMap) (is_null : Bool) (before after : Reading) (v : Value) → value_at (column, m) is_null before ≡ Ok (v, after) → IsRead column v before after
value_read column m true before after v h = by column.nullable refl h where
  by : (b : Bool) → column.nullable ≡ b → cond {A = Read} b (Ok (value.Null, before)) (Err (fault.Unfit column.name)) ≡ Ok (v, after) → IsRead column v before after
  by true e same =
      let both = pair_ok {A = Value} {B = Reading} (value.Null, before) (v, after) same in
      let null = both.0 in
      let there = both.1 in
      rw (← null, ← there) (e, keeps_same before)
  by false e same = absurd cc
value_read column m false before after v h = from_bytes_read column m before after v (value_bytes column.kind m before) refl h

with_value_ok : (v : Value) (o : Result (List Value × Reading) RowFault) (values : List Value) (after : Reading) → with_value v o ≡ Ok (values, after) → (rest : List Value) × (o ≡ Ok (rest, after)) × (values ≡ v ∷ rest)
with_value_ok v (Err e) values after h = absurd cc
with_value_ok v (Ok read) values after h =
    let both = pair_ok {A = List Value} {B = Reading} (v ∷ read.0, read.1) (values, after) h in
    (read.0, ap (λ r. Ok (read.0, r)) both.1, sym both.0)

-- The values of some columns: each fits its own, and the bytes are kept.
abbrev pub AreRead : List Column → List Value → Reading → Reading → Type 0
AreRead columns values before after = (pointwise fits values columns ≡ true) × Keeps before after

pub values_read : (nulls : List ℕ) (number : ℕ) (columns : List Column) (maps : List ColumnMap) (before after : Reading) (values : List Value) → length maps ≡ length columns
    → values_from nulls number (zip columns maps) before ≡ Ok (values, after) → AreRead columns values before after
values_read nulls number [] maps before after values same h =
    let both = pair_ok {A = List Value} {B = Reading} ([], before) (values, after) h in
    let none = both.0 in
    let there = both.1 in
    rw (← none, ← there) (refl, keeps_same before)
values_read nulls number (column ∷ columns) [] before after values same h = absurd (omega arith)
values_read nulls number (column ∷ columns) (m ∷ maps) before after values same h = by (value_at (column, m) (is_set nulls number) before) (λ r vs e. values_read nulls (number + 1) columns maps r after vs (omega arith) e) refl h where
  by : (o : Read) → ((r : Reading) (vs : List Value) → values_from nulls (number + 1) (zip columns maps) r ≡ Ok (vs, after) → AreRead columns vs r after)
      → value_at (column, m) (is_set nulls number) before ≡ o → and_rest o (λ r. values_from nulls (number + 1) (zip columns maps) r) ≡ Ok (values, after) → AreRead (column ∷ columns) values before after
  by (Err e) others is all = absurd cc
  by (Ok read) others is all =
      let rest = with_value_ok read.0 (values_from nulls (number + 1) (zip columns maps) read.1) values after all in
      let first = value_read column m (is_set nulls number) before read.1 read.0 is in
      let behind = others read.1 rest.0 rest.1 in
      rw rest.2 (rw (first.0, behind.0) refl, keeps_both before read.1 after first.1 behind.1)

taken_ok : (o : Result (List Value × Reading) RowFault) (row : List Value) (count : ℕ) → taken o ≡ Ok (row, count) → (after : Reading) × (o ≡ Ok (row, after)) × (after.place ≡ count)
taken_ok (Err e) row count h = absurd cc
taken_ok (Ok read) row count h =
    let both = pair_ok {A = List Value} {B = ℕ} (read.0, read.1.place) (row, count) h in
    (read.1, ap (λ r. Ok (r, read.1)) both.0, both.1)

-- a row of a layout from some bytes
abbrev pub IsRow : Layout → List ℕ → List Value → ℕ → Type 0
IsRow layout bytes row count = (pointwise fits row layout.columns ≡ true) × (length row ≡ length layout.columns) × (count ≤ length bytes)

behind_read : (maps : List ColumnMap) (layout : Layout) (bytes : List ℕ) (row : List Value) (count : ℕ) (o : Option (List ℕ × Reading)) → length maps ≡ length layout.columns
    → piece (bitmap_length (length (zip layout.columns maps))) (record { bytes = bytes; place = 0 }) ≡ o → taken (values_behind (zip layout.columns maps) o) ≡ Ok (row, count) → IsRow layout bytes row count
behind_read maps layout bytes row count None same is h = absurd cc
behind_read maps layout bytes row count (Some nulls) same is h =
    let read = taken_ok (values_from nulls.0 0 (zip layout.columns maps) nulls.1) row count h in
    let keeps = piece_keeps (bitmap_length (length (zip layout.columns maps))) (record { bytes = bytes; place = 0 }) nulls.1 nulls.0 is in
    let values = values_read nulls.0 0 layout.columns maps nulls.1 read.0 row same read.1 in
    let both = keeps_both (record { bytes = bytes; place = 0 }) nulls.1 read.0 keeps values.1 in
    let there : read.0.place ≤ length bytes = rw both.0 at (both.1 (omega arith)) in
    (values.0, as_long fits row layout.columns values.0, omega (arith, there, read.2))

typed_read : (maps : List ColumnMap) (layout : Layout) (bytes : List ℕ) (row : List Value) (count : ℕ) (o : Option Place) → length maps ≡ length layout.columns
    → taken (typed_row (zip layout.columns maps) o bytes) ≡ Ok (row, count) → IsRow layout bytes row count
typed_read maps layout bytes row count (Some p) same h = absurd cc
typed_read maps layout bytes row count None same h = behind_read maps layout bytes row count (piece (bitmap_length (length (zip layout.columns maps))) (record { bytes = bytes; place = 0 })) same refl h

-- The law: a row that is decoded has a value for each column, which fits it, and its bytes are there.
pub row_is : (maps : List ColumnMap) (layout : Layout) (bytes : List ℕ) (row : List Value) (count : ℕ) → row_of maps layout bytes ≡ Ok (row, count) → IsRow layout bytes row count
unfolding row_of
row_is maps layout bytes row count h = by (eqb (length maps) (length layout.columns)) refl h where
  by : (b : Bool) → eqb (length maps) (length layout.columns) ≡ b
      → cond {A = Result (List Value × ℕ) RowFault} (not b) (Err fault.Count) (taken (typed_row (zip layout.columns maps) (differing (zip layout.columns maps)) bytes)) ≡ Ok (row, count) → IsRow layout bytes row count
  by true e is = typed_read maps layout bytes row count (differing (zip layout.columns maps)) (eqb-true _ _ e) is
  by false e is = absurd cc
