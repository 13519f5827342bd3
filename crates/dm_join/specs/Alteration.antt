-- The changes that make one schema of another with the same primary key, which a target is sent as one ALTER.
use Rattle.std.specs.Prelude.{true, false, not, List, ◌++◌, map}
use Rattle.std.specs.List.{list_any, filter}
use Rattle.std.specs.Option.{option_map_or}
use Rattle.dm_schema.specs.declared.column.Column.{Column}
use Rattle.dm_schema.specs.declared.column.UniqueKey.{UniqueKey}
use Rattle.dm_schema.specs.declared.change.Change.{Change}
use Rattle.dm_schema.specs.declared.change.Change.TheVariants as change
use Rattle.dm_schema.specs.declared.change.Spot.TheVariants as spot
use Rattle.dm_schema.specs.Layout.{Layout}
use Rattle.dm_schema.specs.Names.{column_at, has_column}
use Rattle.dm_schema.specs.NameOrder.{columns_in_order, uniques_in_order}
use Rattle.dm_schema.specs.Schemas.{same_column, same_unique}

-- the unique keys of the one schema that aren't keys of the other, with the same name and list
abbrev pub keys_only_in : Layout → Layout → List UniqueKey
keys_only_in here there = uniques_in_order (filter (λ k. not (list_any (same_unique k) there.uniques)) here.uniques)

-- the columns of the one schema whose names the other lacks
abbrev pub columns_only_in : Layout → Layout → List Column
columns_only_in here there = columns_in_order (filter (λ c. not (has_column there.columns c.name)) here.columns)

-- the columns of the new schema that the old one has, and has otherwise
abbrev pub columns_moved : Layout → Layout → List Column
columns_moved old new = columns_in_order (filter (λ c. option_map_or (λ before. not (same_column before c)) (column_at old.columns c.name) false) new.columns)

-- drops keys, drops columns, modifies columns, adds columns and adds keys, each group in byte order of names
unfoldable pub alteration : Layout → Layout → List Change
alteration old new =
    map (λ k. change.DropKey k.name) (keys_only_in old new)
    ++ map (λ c. change.Drop c.name) (columns_only_in old new)
    ++ map (λ c. change.Modify c spot.Keep c.nullable) (columns_moved old new)
    ++ map (λ c. change.Add c spot.Last) (columns_only_in new old)
    ++ map (λ k. change.AddUnique k true) (keys_only_in new old)
