-- Going over the columns of a table map.
use Rattle.std.proofs.Common.{List, ◌++◌, Option}
use Rattle.std.specs.Option.{option_map}
use Rattle.dm_binlog.specs.declared.bodies.ColumnMap.{ColumnMap}

-- the columns so far, and those of what is left
abbrev pub with_columns : List ColumnMap → Option (List ColumnMap) → Option (List ColumnMap)
with_columns front columns = option_map (λ list. front ++ list) columns
