-- The rows of an event.
use Rattle.std.proofs.Common.{◌≡◌, ℕ, ◌+◌, ◌-◌, ◌<◌, ◌≤◌, ◌^◌, Bool, List, ◌++◌, map, length, Option, Some, None, refl, ap, ◌∙◌, arith, length-drop, length-take}
use Rattle.std.specs.Prelude.{slice_range}
use Rattle.std.specs.Option.{option_map}
use Rattle.dm_schema.specs.Layout.{Layout}
use Rattle.dm_binlog.specs.declared.event.Event.{Event}
use Rattle.dm_binlog.specs.declared.bodies.TableMap.{TableMap}
use Rattle.dm_binlog.specs.declared.bodies.RowsHead.{RowsHead}
use Rattle.dm_binlog.specs.Bodies.{is_update}
use Rattle.dm_decode.specs.declared.fault.RowFault.{RowFault}
use Rattle.dm_stream.specs.declared.cause.BadCause.{BadCause}
use Rattle.dm_stream.specs.Logs.{Logged}
use Rattle.dm_walk.specs.declared.item.Place.{Place}
use Rattle.dm_walk.specs.declared.item.PlaceKind.{PlaceKind}
use Rattle.dm_walk.specs.declared.item.Item.{Item}
use Rattle.dm_walk.specs.declared.track.Track.{Track}
use Rattle.dm_walk.specs.Causes.{row_cause}
use Rattle.dm_walk.specs.Steps.{has_two, images_of, placed_row}
use Rattle.dm_walk.specs.Walks.{Images, ended, images_from, layout_of, place_kind, row_item, rows_bytes, with_images}
use Rattle.dm_walk.proofs.RowKinds.{two_for_updates}

-- bytes that are there have places of 32 bits
pub range_within : (file : List ℕ) (from end : ℕ) (bytes : List ℕ) → length file < 2 ^ 32 → bytes ≡ slice_range file from end → 0 < length bytes → from + length bytes < 2 ^ 32
range_within file from end bytes short is some =
    let long : length bytes ≡ length (slice_range file from end) = ap length is in
    let cut : length (slice_range file from end) ≤ length file - from = simp (length-take, length-drop) (omega arith) in
    omega arith

abbrev pub event_place : Logged → Event → PlaceKind → Place
event_place e map_event kind = record { file = e.file.number; at = 0; event = e.event.at; map = map_event.at; kind = kind }

-- a history with these items, which may end at the event
abbrev pub with_bad : Logged → Track → List Item → Option BadCause → Track
with_bad e t items None = record { own = t.own; first = t.first; later = t.later; items = items; fault = t.fault }
with_bad e t items (Some cause) = ended cause e (record { own = t.own; first = t.first; later = t.later; items = items; fault = t.fault })

added : (e : Logged) (map_event : Event) (images : Images) (t : Track) (items : List Item) (bad : Option BadCause)
    → items ≡ t.items ++ map (row_item e map_event) images.places → bad ≡ option_map row_cause images.fault → with_bad e t items bad ≡ with_images e map_event images t
added e map_event images t items bad items_are bad_is = by images.fault bad_is where
  by : (fault : Option RowFault) → bad ≡ option_map row_cause fault → with_bad e t items bad ≡ with_images e map_event (record { places = images.places; fault = fault }) t
  by None is = rw (is, items_are) refl
  by (Some f) is = rw (is, items_are) refl

-- what is read of an event, by the kind that its places have
abbrev pub images_by : Logged → TableMap → RowsHead → PlaceKind → Layout → List ℕ → Images
images_by e table head kind layout bytes = images_from (has_two kind) table.columns layout (e.event.body + head.rows) 0 bytes

same_images : (e : Logged) (table : TableMap) (head : RowsHead) (t : Track) (layout : Layout) (bytes : List ℕ) → layout ≡ layout_of t → bytes ≡ rows_bytes e.file.bytes e.event head
    → images_by e table head (place_kind e.event.kind) layout bytes ≡ images_of e table head t
same_images e table head t layout bytes layout_is bytes_are =
    ap (λ (update : Bool). images_from update table.columns layout (e.event.body + head.rows) 0 bytes) (two_for_updates e.event.kind)
    ∙ ap (λ (l : Layout). images_from (is_update e.event.kind) table.columns l (e.event.body + head.rows) 0 bytes) layout_is
    ∙ ap (images_from (is_update e.event.kind) table.columns (layout_of t) (e.event.body + head.rows) 0) bytes_are

pub images_added : (e : Logged) (map_event : Event) (table : TableMap) (head : RowsHead) (t : Track) (kind : PlaceKind) (layout : Layout) (bytes : List ℕ) (items : List Item) (bad : Option BadCause)
    → kind ≡ place_kind e.event.kind → layout ≡ layout_of t → bytes ≡ rows_bytes e.file.bytes e.event head
    → items ≡ t.items ++ map (placed_row (event_place e map_event kind)) (images_by e table head kind layout bytes).places → bad ≡ option_map row_cause (images_by e table head kind layout bytes).fault
    → with_bad e t items bad ≡ with_images e map_event (images_of e table head t) t
images_added e map_event table head t kind layout bytes items bad kind_is layout_is bytes_are items_are bad_is =
    let images : images_by e table head kind layout bytes ≡ images_of e table head t = ap (λ (k : PlaceKind). images_by e table head k layout bytes) kind_is ∙ same_images e table head t layout bytes layout_is bytes_are in
    let places : items ≡ t.items ++ map (placed_row (event_place e map_event (place_kind e.event.kind))) (images_of e table head t).places =
    items_are
    ∙ ap (λ (k : PlaceKind). t.items ++ map (placed_row (event_place e map_event k)) (images_by e table head kind layout bytes).places) kind_is
    ∙ ap (λ (found : Images). t.items ++ map (placed_row (event_place e map_event (place_kind e.event.kind))) found.places) images in
    added e map_event (images_of e table head t) t items bad places (bad_is ∙ ap (λ (found : Images). option_map row_cause found.fault) images)
