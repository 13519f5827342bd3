-- Going over the changes of an event's rows.
use Rattle.std.proofs.Common.{◌≡◌, ℕ, zero, suc, ◌+◌, ◌-◌, ◌<◌, ◌≤◌, Bool, false, List, [], ◌∷◌, ◌++◌, map, length, drop, take, Option, Some, None, Result, Ok, Err, refl, sym, ap, ◌∙◌, arith, append_assoc, append-nil, length-drop}
use Rattle.std.specs.Bool.{⊤, MatchBool}
use Rattle.std.specs.Option.{option_map}
use Rattle.std.proofs.lemmas.List.{drop-drop, take_rest}
use Rattle.dm_schema.specs.Layout.{Layout}
use Rattle.dm_binlog.specs.declared.bodies.ColumnMap.{ColumnMap}
use Rattle.dm_decode.specs.declared.fault.RowFault.{RowFault}
use Rattle.dm_decode.specs.Rows.{is_memory}
use Rattle.dm_list.specs.Answer.{Answers}
use Rattle.dm_stream.specs.declared.cause.BadCause.{BadCause}
use Rattle.dm_walk.specs.declared.item.Place.{Place}
use Rattle.dm_walk.specs.declared.item.Item.{Item}
use Rattle.dm_walk.specs.Causes.{row_cause}
use Rattle.dm_walk.specs.Steps.{has_two, placed_row}
use Rattle.dm_walk.specs.Walks.{Images, change_size, images_from}

pub images_skip : (update : Bool) (maps : List ColumnMap) (layout : Layout) (at inside : ℕ) (bytes : List ℕ) → inside ≤ length bytes
    → images_from update maps layout at inside bytes ≡ images_from update maps layout (at + inside) 0 (drop inside bytes)
unfolding images_from
images_skip update maps layout at zero bytes h = let same : at ≡ at + 0 = omega arith in ap (λ place. images_from update maps layout place 0 bytes) same
images_skip update maps layout at (suc inside) [] h = absurd (omega arith)
images_skip update maps layout at (suc inside) (b ∷ bs) h =
    let same : at + 1 + inside ≡ at + suc inside = omega arith in
    images_skip update maps layout (at + 1) inside bs (omega arith) ∙ ap (λ place. images_from update maps layout place 0 (drop inside bs)) same

-- a change at a place, and those behind it
abbrev pub with_place : ℕ → Images → Images
with_place at behind = record { places = at ∷ behind.places; fault = behind.fault }

-- a change that is there, and those behind it
pub images_next : (update : Bool) (maps : List ColumnMap) (layout : Layout) (at size step : ℕ) (bytes : List ℕ) → 0 < length bytes → change_size update maps layout bytes ≡ Ok size → size ≤ length bytes → step ≡ suc (size - 1)
    → images_from update maps layout at 0 bytes ≡ with_place at (images_from update maps layout (at + step) 0 (drop step bytes))
unfolding images_from
images_next update maps layout at size step [] some is within step_is = absurd (omega arith)
images_next update maps layout at size step (b ∷ bs) some is within step_is =
    let left : size - 1 ≤ length bs = omega arith in
    let place : at + 1 + (size - 1) ≡ at + suc (size - 1) = omega arith in
    rw (step_is, is) (ap (with_place at) (images_skip update maps layout (at + 1) (size - 1) bs left ∙ ap (λ p. images_from update maps layout p 0 (drop (size - 1) bs)) place))

pub images_stop : (update : Bool) (maps : List ColumnMap) (layout : Layout) (at : ℕ) (bytes : List ℕ) (fault : RowFault) → 0 < length bytes → change_size update maps layout bytes ≡ Err fault
    → images_from update maps layout at 0 bytes ≡ record { places = []; fault = Some fault }
unfolding images_from
images_stop update maps layout at [] fault some is = absurd (omega arith)
images_stop update maps layout at (b ∷ bs) fault some is = rw is refl

pub images_none : (update : Bool) (maps : List ColumnMap) (layout : Layout) (at : ℕ) (bytes : List ℕ) → length bytes ≡ 0 → images_from update maps layout at 0 bytes ≡ record { places = []; fault = None }
unfolding images_from
images_none update maps layout at [] none = refl
images_none update maps layout at (b ∷ bs) none = absurd (omega arith)

-- what a loop over rows knows of the place that it has come to: the items so far, with those of the changes that are left,
-- are all
pub record IsKnown (place : Place) (items : List Item) (left : Images) (before : List Item) (all : Images) : Type 0 where
  pub same_items : items ++ map (placed_row place) left.places ≡ before ++ map (placed_row place) all.places
  pub same_fault : left.fault ≡ all.fault

pub known_first : (place : Place) (maps : List ColumnMap) (layout : Layout) (from : ℕ) (bytes : List ℕ) (items : List Item)
    → IsKnown place items (images_from (has_two place.kind) maps layout (from + 0) 0 bytes) items (images_from (has_two place.kind) maps layout from 0 bytes)
known_first place maps layout from bytes items =
    let same : from + 0 ≡ from = omega arith in
    rw same (record { same_items = refl; same_fault = refl })

pub known_next : (place : Place) (update : Bool) (maps : List ColumnMap) (layout : Layout) (from at size step : ℕ) (bytes : List ℕ) (items more before : List Item) (all : Images)
    → at < length bytes → update ≡ has_two place.kind → Ok size ≡ change_size update maps layout (take (length bytes - at) (drop at bytes)) → size ≤ length (take (length bytes - at) (drop at bytes)) → step ≡ suc (size - 1)
    → more ≡ items ++ placed_row place (from + at) ∷ []
    → IsKnown place items (images_from (has_two place.kind) maps layout (from + at) 0 (drop at bytes)) before all
    → IsKnown place more (images_from (has_two place.kind) maps layout (from + (at + step)) 0 (drop (at + step) bytes)) before all
known_next place update maps layout from at size step bytes items more before all inside twice is within step_is more_is known =
    let some : 0 < length (drop at bytes) = simp length-drop (omega arith) in
    let here : change_size (has_two place.kind) maps layout (drop at bytes) ≡ Ok size = sym (is ∙ ap (λ (u : Bool). change_size u maps layout (take (length bytes - at) (drop at bytes))) twice ∙ ap (change_size (has_two place.kind) maps layout) (take_rest bytes at)) in
    let there : size ≤ length (drop at bytes) = rw take_rest at within in
    let next = images_next (has_two place.kind) maps layout (from + at) size step (drop at bytes) some here there step_is in
    let place_is : from + (at + step) ≡ from + at + step = omega arith in
    rw (place_is, ← drop-drop step at bytes) (record {
      same_items = rw (more_is, append_assoc) (ap (λ (images : Images). items ++ map (placed_row place) images.places) (sym next) ∙ known.same_items);
      same_fault = ap (λ (images : Images). images.fault) (sym next) ∙ known.same_fault;
    })

pub next_within : (at size step : ℕ) (bytes : List ℕ) → at < length bytes → size ≤ length (take (length bytes - at) (drop at bytes)) → step ≡ suc (size - 1) → at + step ≤ length bytes
next_within at size step bytes inside within step_is =
    let there : size ≤ length (drop at bytes) = rw take_rest at within in
    let left : size ≤ length bytes - at = simp length-drop at there in
    omega arith

-- what is known where a loop ends
pub record IsDone (place : Place) (items : List Item) (fault : Option RowFault) (before : List Item) (all : Images) : Type 0 where
  pub done_items : items ≡ before ++ map (placed_row place) all.places
  pub done_fault : fault ≡ all.fault

pub known_end : (place : Place) (maps : List ColumnMap) (layout : Layout) (from at : ℕ) (bytes : List ℕ) (items before : List Item) (all : Images) → length bytes ≤ at
    → IsKnown place items (images_from (has_two place.kind) maps layout (from + at) 0 (drop at bytes)) before all → IsDone place items None before all
known_end place maps layout from at bytes items before all past known =
    let none : length (drop at bytes) ≡ 0 = simp length-drop (omega arith) in
    let end = images_none (has_two place.kind) maps layout (from + at) (drop at bytes) none in
    record {
      done_items = sym (append-nil items) ∙ ap (λ (images : Images). items ++ map (placed_row place) images.places) (sym end) ∙ known.same_items;
      done_fault = ap (λ (images : Images). images.fault) (sym end) ∙ known.same_fault;
    }

told_unless : (fault : RowFault) (expected : Result ℕ RowFault) → is_memory fault ≡ false → Answers {T = ℕ} is_memory (Err fault) expected → Err fault ≡ expected
told_unless fault expected known answers = let told : MatchBool false ⊤ (Err fault ≡ expected) = rw known at answers in told

pub known_stop : (place : Place) (update : Bool) (maps : List ColumnMap) (layout : Layout) (from at : ℕ) (bytes : List ℕ) (items before : List Item) (all : Images) (fault : RowFault) → at < length bytes → update ≡ has_two place.kind → is_memory fault ≡ false
    → Answers {T = ℕ} is_memory (Err fault) (change_size update maps layout (take (length bytes - at) (drop at bytes)))
    → IsKnown place items (images_from (has_two place.kind) maps layout (from + at) 0 (drop at bytes)) before all → IsDone place items (Some fault) before all
known_stop place update maps layout from at bytes items before all fault inside twice other answers known =
    let some : 0 < length (drop at bytes) = simp length-drop (omega arith) in
    let here : change_size (has_two place.kind) maps layout (drop at bytes) ≡ Err fault = sym (told_unless fault (change_size update maps layout (take (length bytes - at) (drop at bytes))) other answers ∙ ap (λ (u : Bool). change_size u maps layout (take (length bytes - at) (drop at bytes))) twice ∙ ap (change_size (has_two place.kind) maps layout) (take_rest bytes at)) in
    let end = images_stop (has_two place.kind) maps layout (from + at) (drop at bytes) fault some here in
    record {
      done_items = sym (append-nil items) ∙ ap (λ (images : Images). items ++ map (placed_row place) images.places) (sym end) ∙ known.same_items;
      done_fault = ap (λ (images : Images). images.fault) (sym end) ∙ known.same_fault;
    }

pub done_cause : (cause : BadCause) (fault : RowFault) (all : Option RowFault) → cause ≡ row_cause fault → Some fault ≡ all → Some cause ≡ option_map row_cause all
done_cause cause fault all cause_is fault_is = rw (cause_is, ← fault_is) refl
