-- Steps of a walk.
use Rattle.std.specs.Prelude.{ℕ, ◌<◌, ◌^◌, ◌+◌, Bool, true, false, List, [], ◌∷◌, length, is_some}
use Rattle.std.specs.List.{list_all}
use Rattle.dm_binlog.specs.declared.bodies.TableMap.{TableMap}
use Rattle.dm_binlog.specs.declared.bodies.RowsHead.{RowsHead}
use Rattle.dm_binlog.specs.Bodies.{is_update}
use Rattle.dm_stream.specs.Sayings.{Said, Nothing, Ends, Rows, Statement as Stated}
use Rattle.dm_stream.specs.Logs.{Logged}
use Rattle.dm_walk.specs.declared.item.Place.{Place}
use Rattle.dm_walk.specs.declared.item.PlaceKind.{PlaceKind}
use Rattle.dm_walk.specs.declared.item.PlaceKind.TheVariants as kind
use Rattle.dm_walk.specs.declared.item.Item.{Item}
use Rattle.dm_walk.specs.declared.item.Item.TheVariants as item
use Rattle.dm_walk.specs.declared.track.Track.{Track}
use Rattle.dm_walk.specs.Walks.{Images, images_from, layout_of, rows_bytes}

-- the row item of an event that a place tells of, at another byte
abbrev pub placed_row : Place → ℕ → Item
placed_row place at = item.Row (record { file = place.file; at = at; event = place.event; map = place.map; kind = place.kind })

-- an update has two images
abbrev pub has_two : PlaceKind → Bool
has_two kind.Update = true
has_two kind.Dumped = false
has_two kind.Write = false
has_two kind.Delete = false
has_two kind.Statement = false

abbrev pub HasShortText : Said → Type 0
HasShortText Nothing = Unit {0}
HasShortText (Ends cause) = Unit {0}
HasShortText (Rows map_event table head) = Unit {0}
HasShortText (Stated head db text) = length text < 2 ^ 32

-- places in its file and in its text have 32 bits
abbrev pub IsShort : Logged → Type 0
IsShort e = (length e.file.bytes < 2 ^ 32) × HasShortText e.said

abbrev pub AreShort : List Logged → Type 0
AreShort [] = Unit {0}
AreShort (e ∷ es) = IsShort e × AreShort es

-- each history has ended
abbrev pub have_ended : List Track → Bool
have_ended tracks = list_all (λ t. is_some t.fault) tracks

-- the changes of an event's rows, by the schema that the history has come to
abbrev pub images_of : Logged → TableMap → RowsHead → Track → Images
images_of e table head t = images_from (is_update e.event.kind) table.columns (layout_of t) (e.event.body + head.rows) 0 (rows_bytes e.file.bytes e.event head)
