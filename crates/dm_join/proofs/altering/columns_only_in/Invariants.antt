use Rattle.std.proofs.Common.{◌≡◌, not, take}
use Rattle.std.specs.List.{filter}
use Rattle.dm_schema.specs.Names.{has_column}
use Rattle.dm_join.proofs.altering.columns_only_in.Given as goal

abbrev pub invariant-loop-column : goal.invariant-loop-column
invariant-loop-column l = l.columns.items ≡ filter (λ c. not (has_column l.there.columns c.name)) (take l.column-index l.column-items)
