-- Which rows of a table a change touches.
use Rattle.std.specs.Prelude.{Bool, true, false, ◌==◌, List, [], ◌∷◌, length, Option, Some, None}
use Rattle.std.specs.Option.{option_map_or}
use Rattle.std.specs.List.{list_any}
use Rattle.dm_schema.specs.Layout.{Layout}
use Rattle.dm_schema.specs.Rows.{key_of}
use Rattle.dm_schema.specs.declared.row_change.RowChange.{RowChange}
use Rattle.dm_schema.specs.declared.row_change.RowChange.TheVariants as change
use Rattle.dm_table.specs.Contents.{Row, same_row}

-- the primary keys of its old and its new row
abbrev pub touched_keys : Layout → RowChange → List Row
touched_keys layout (change.Insert new) = key_of layout new ∷ []
touched_keys layout (change.Update old new) = key_of layout old ∷ key_of layout new ∷ []
touched_keys layout (change.Delete old) = key_of layout old ∷ []

abbrev pub touches : Layout → RowChange → Row → Bool
touches layout c key = list_any (λ k. same_row k key) (touched_keys layout c)

-- the row that it puts in
abbrev pub new_row : RowChange → Option Row
new_row (change.Insert new) = Some new
new_row (change.Update old new) = Some new
new_row (change.Delete old) = None

-- that row has a value for each column
abbrev pub is_whole : Layout → RowChange → Bool
is_whole layout c = option_map_or (λ row. length row == length layout.columns) (new_row c) true

-- the row that it takes out
abbrev pub old_row : RowChange → Option Row
old_row (change.Insert new) = None
old_row (change.Update old new) = Some old
old_row (change.Delete old) = Some old

-- a row that is there has the key
abbrev pub has_key : Layout → Option Row → Row → Bool
has_key layout row key = option_map_or (λ r. same_row (key_of layout r) key) row false
