use Rattle.std.proofs.Common.{◌≡◌, false, not, take}
use Rattle.std.specs.List.{filter}
use Rattle.std.specs.Option.{option_map_or}
use Rattle.dm_schema.specs.Names.{column_at}
use Rattle.dm_schema.specs.Schemas.{same_column}
use Rattle.dm_join.proofs.altering.columns_moved.Given as goal

abbrev pub invariant-loop-column : goal.invariant-loop-column
invariant-loop-column l = l.columns.items ≡ filter (λ c. option_map_or (λ before. not (same_column before c)) (column_at l.old.columns c.name) false) (take l.column-index l.column-items)
