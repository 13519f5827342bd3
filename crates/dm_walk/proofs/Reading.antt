-- What stands at the places of an event's changes.
use Rattle.std.proofs.Common.{◌≡◌, ℕ, zero, suc, ◌+◌, ◌-◌, Bool, true, false, cond, ◌==◌, ◌||◌, List, [], ◌∷◌, drop, take, Some, is_some, Result, Ok, Err, is_ok, refl, sym, ap, ◌∙◌, arith}
use Rattle.std.specs.Prelude.{slice_range}
use Rattle.std.proofs.lemmas.List.{drop-drop}
use Rattle.dm_value.specs.declared.value.Value.{Value}
use Rattle.dm_schema.specs.Layout.{Layout}
use Rattle.dm_binlog.specs.declared.event.Event.{Event}
use Rattle.dm_binlog.specs.declared.event.TheConstants.{WRITE_ROWS_V1, WRITE_ROWS}
use Rattle.dm_binlog.specs.declared.bodies.TableMap.{TableMap}
use Rattle.dm_binlog.specs.declared.bodies.ColumnMap.{ColumnMap}
use Rattle.dm_binlog.specs.declared.bodies.RowsHead.{RowsHead}
use Rattle.dm_binlog.specs.Bodies.{is_update}
use Rattle.dm_decode.specs.declared.fault.RowFault.{RowFault}
use Rattle.dm_decode.specs.Rows.{row_of}
use Rattle.dm_walk.specs.declared.item.Place.{Place}
use Rattle.dm_walk.specs.declared.item.PlaceKind.{PlaceKind}
use Rattle.dm_walk.specs.declared.item.PlaceKind.TheVariants as place
use Rattle.dm_walk.specs.Changes.{change_in, end_of, logged_change, map_at}
use Rattle.dm_walk.specs.Steps.{has_two}
use Rattle.dm_walk.specs.Walks.{change_size, images_from, place_kind, rows_bytes, told}
use Rattle.dm_walk.proofs.RowKinds.{two_for_updates}

-- a change stands so many bytes behind a place
abbrev pub IsThere : Bool → List ColumnMap → Layout → ℕ → List ℕ → ℕ → Type 0
IsThere update maps layout at bytes p = (n : ℕ) × (p ≡ at + n) × (is_ok (change_size update maps layout (drop n bytes)) ≡ true)

abbrev pub AreThere : Bool → List ColumnMap → Layout → ℕ → List ℕ → List ℕ → Type 0
AreThere update maps layout at bytes [] = Unit {0}
AreThere update maps layout at bytes (p ∷ ps) = IsThere update maps layout at bytes p × AreThere update maps layout at bytes ps

further : (update : Bool) (maps : List ColumnMap) (layout : Layout) (at b : ℕ) (bytes places : List ℕ) → AreThere update maps layout (at + 1) bytes places → AreThere update maps layout at (b ∷ bytes) places
further update maps layout at b bytes [] all = tt
further update maps layout at b bytes (p ∷ ps) all = ((suc all.0.0, omega (arith, all.0.1), all.0.2), further update maps layout at b bytes ps all.1)

pub images_there : (update : Bool) (maps : List ColumnMap) (layout : Layout) (at inside : ℕ) (bytes : List ℕ) → AreThere update maps layout at bytes (images_from update maps layout at inside bytes).places
unfolding images_from
images_there update maps layout at inside [] = tt
images_there update maps layout at (suc inside) (b ∷ bs) = further update maps layout at b bs _ (images_there update maps layout (at + 1) inside bs)
images_there update maps layout at zero (b ∷ bs) = by (change_size update maps layout (b ∷ bs)) refl (λ size. further update maps layout at b bs _ (images_there update maps layout (at + 1) (size - 1) bs)) where
  by : (o : Result ℕ RowFault) → change_size update maps layout (b ∷ bs) ≡ o → ((size : ℕ) → AreThere update maps layout at (b ∷ bs) (images_from update maps layout (at + 1) (size - 1) bs).places)
      → AreThere update maps layout at (b ∷ bs) (told o at (λ size. images_from update maps layout (at + 1) (size - 1) bs)).places
  by (Err f) is rest = tt
  by (Ok size) is rest = ((0, omega arith, rw is refl), rest size)

-- a rows event's kind
abbrev pub IsLogged : PlaceKind → Type 0
IsLogged place.Write = Unit {0}
IsLogged place.Update = Unit {0}
IsLogged place.Delete = Unit {0}
IsLogged place.Dumped = ⊥
IsLogged place.Statement = ⊥

pub logged_kind : (code : ℕ) → IsLogged (place_kind code)
logged_kind code = by (code == WRITE_ROWS_V1 || code == WRITE_ROWS) (is_update code) where
  by : (write update : Bool) → IsLogged (cond {A = PlaceKind} write place.Write (cond {A = PlaceKind} update place.Update place.Delete))
  by true update = tt
  by false true = tt
  by false false = tt

abbrev Row : Type 0
Row = Result (List Value × ℕ) RowFault

-- where a change has a size it can be read
change_read : (kind : PlaceKind) (maps : List ColumnMap) (layout : Layout) (bytes : List ℕ) → IsLogged kind → is_ok (change_size (has_two kind) maps layout bytes) ≡ true → is_some (change_in kind maps layout bytes) ≡ true
change_read place.Dumped maps layout bytes logged sized = absurd logged
change_read place.Statement maps layout bytes logged sized = absurd logged
change_read place.Write maps layout bytes logged sized = by (row_of maps layout bytes) refl where
  by : (o : Row) → row_of maps layout bytes ≡ o → is_some (change_in place.Write maps layout bytes) ≡ true
  by (Err f) is = absurd (let none : false ≡ true = rw is at sized in cc)
  by (Ok read) is = rw is refl
change_read place.Delete maps layout bytes logged sized = by (row_of maps layout bytes) refl where
  by : (o : Row) → row_of maps layout bytes ≡ o → is_some (change_in place.Delete maps layout bytes) ≡ true
  by (Err f) is = absurd (let none : false ≡ true = rw is at sized in cc)
  by (Ok read) is = rw is refl
change_read place.Update maps layout bytes logged sized = by (row_of maps layout bytes) refl where
  second : (read : List Value × ℕ) → row_of maps layout bytes ≡ Ok read → (o : Row) → row_of maps layout (drop read.1 bytes) ≡ o → is_some (change_in place.Update maps layout bytes) ≡ true
  second read is (Err f) behind = absurd (let none : false ≡ true = rw (is, behind) at sized in cc)
  second read is (Ok other) behind = rw (is, behind) refl

  by : (o : Row) → row_of maps layout bytes ≡ o → is_some (change_in place.Update maps layout bytes) ≡ true
  by (Err f) is = absurd (let none : false ≡ true = rw is at sized in cc)
  by (Ok read) is = second read is (row_of maps layout (drop read.1 bytes)) refl

take_none : (k : ℕ) → ◌≡◌ {A = List ℕ} (take k []) []
take_none zero = refl
take_none (suc k) = refl

pub drop_take : (n m : ℕ) (xs : List ℕ) → drop n (take m xs) ≡ take (m - n) (drop n xs)
drop_take zero m xs = let same : m ≡ m - 0 = omega arith in ap (λ (k : ℕ). take k xs) same
drop_take (suc n) zero xs = let none : 0 ≡ 0 - suc n = omega arith in ap (λ (k : ℕ). take k (drop (suc n) xs)) none
drop_take (suc n) (suc m) [] = sym (take_none (suc m - suc n))
drop_take (suc n) (suc m) (x ∷ xs) = let same : m - n ≡ suc m - suc n = omega arith in drop_take n m xs ∙ ap (λ (k : ℕ). take k (drop n xs)) same

-- the bytes from a change on up to the event's end
rest_of : (file : List ℕ) (from end n : ℕ) → slice_range file (from + n) end ≡ drop n (slice_range file from end)
rest_of file from end n =
    let same : end - (from + n) ≡ end - from - n = omega arith in
    ap (λ (k : ℕ). take k (drop (from + n) file)) same ∙ ap (take (end - from - n)) (sym (drop-drop n from file)) ∙ sym (drop_take n (end - from) (drop from file))

-- the place of a row of an event
abbrev pub row_place : ℕ → Event → Event → ℕ → Place
row_place number e map_event p = record { file = number; at = p; event = e.at; map = map_event.at; kind = place_kind e.kind }

-- a change of a rows event that has a size is read at its place
pub place_read : (file : List ℕ) (number : ℕ) (e map_event : Event) (table : TableMap) (head : RowsHead) (layout : Layout) (p : ℕ) → e.end ≡ end_of file e.at → map_at file map_event.at ≡ Some table
    → IsThere (is_update e.kind) table.columns layout (e.body + head.rows) (rows_bytes file e head) p → is_some (logged_change file (row_place number e map_event p) layout) ≡ true
place_read file number e map_event table head layout p end map there =
    let n = there.0 in
    let kind = place_kind e.kind in
    let sized : is_ok (change_size (has_two kind) table.columns layout (drop n (rows_bytes file e head))) ≡ true = rw (two_for_updates e.kind) there.2 in
    let read = change_read kind table.columns layout (drop n (rows_bytes file e head)) (logged_kind e.kind) sized in
    let bytes : slice_range file p (end_of file e.at) ≡ drop n (rows_bytes file e head) =
    ap (λ (from : ℕ). slice_range file from (end_of file e.at)) there.1 ∙ ap (slice_range file (e.body + head.rows + n)) (sym end) ∙ rest_of file (e.body + head.rows) e.end n in
    rw (map, bytes) read
