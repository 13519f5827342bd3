-- A table map whose columns are still to be read.
use Rattle.std.specs.Prelude.{ℕ, List, Option}
use Rattle.std.specs.Option.{option_map}
use Rattle.dm_binlog.specs.declared.bodies.ColumnMap.{ColumnMap}
use Rattle.dm_binlog.specs.declared.bodies.TableMap.{TableMap}

abbrev pub table_map_with : ℕ → List ℕ → List ℕ → Option (List ColumnMap) → Option TableMap
table_map_with id db table columns = option_map (λ columns. record { id = id; db = db; table = table; columns = columns }) columns
