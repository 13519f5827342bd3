-- The change of a row that stands at a place of a binlog file.
use Rattle.std.specs.Prelude.{ℕ, ◌+◌, List, drop, slice_range, Option, Some, None, option_and_then, Result, Ok, Err}
use Rattle.dm_value.specs.declared.value.Value.{Value}
use Rattle.dm_schema.specs.Layout.{Layout}
use Rattle.dm_schema.specs.declared.row_change.RowChange.{RowChange}
use Rattle.dm_schema.specs.declared.row_change.RowChange.TheVariants as change
use Rattle.dm_binlog.specs.declared.bodies.TableMap.{TableMap}
use Rattle.dm_binlog.specs.declared.bodies.ColumnMap.{ColumnMap}
use Rattle.dm_binlog.specs.Bodies.{table_map_of}
use Rattle.dm_binlog.specs.Framing.{event_size, header_length}
use Rattle.dm_decode.specs.declared.fault.RowFault.{RowFault}
use Rattle.dm_decode.specs.Rows.{row_of}
use Rattle.dm_walk.specs.declared.item.Place.{Place}
use Rattle.dm_walk.specs.declared.item.PlaceKind.{PlaceKind}
use Rattle.dm_walk.specs.declared.item.PlaceKind.TheVariants as place

-- where the event at a place ends
abbrev pub end_of : List ℕ → ℕ → ℕ
end_of file at = at + event_size (drop at file)

-- the table map whose event stands at a place
abbrev pub map_at : List ℕ → ℕ → Option TableMap
map_at file at = table_map_of (slice_range file (at + header_length) (end_of file at))

-- the change of a kind that bytes begin with
abbrev pub change_in : PlaceKind → List ColumnMap → Layout → List ℕ → Option RowChange
change_in kind maps layout bytes = by kind (row_of maps layout bytes) where
  new_image : List Value → Result (List Value × ℕ) RowFault → Option RowChange
  new_image old (Ok read) = Some (change.Update old read.0)
  new_image old (Err fault) = None

  by : PlaceKind → Result (List Value × ℕ) RowFault → Option RowChange
  by place.Write (Ok read) = Some (change.Insert read.0)
  by place.Delete (Ok read) = Some (change.Delete read.0)
  by place.Update (Ok read) = new_image read.0 (row_of maps layout (drop read.1 bytes))
  by place.Dumped (Ok read) = None
  by place.Statement (Ok read) = None
  by kind (Err fault) = None

-- the change of a row whose event is in this file
abbrev pub logged_change : List ℕ → Place → Layout → Option RowChange
logged_change file at layout = option_and_then (λ map. change_in at.kind map.columns layout (slice_range file at.at (end_of file at.event))) (map_at file at.map)
