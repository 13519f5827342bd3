-- The schemas of the tables so far, which tell how values are written and read.
use Rattle.std.specs.Prelude.{Option}
use Rattle.std.specs.Coded.{Coded}
use Rattle.std.specs.FinMap as fin
use Rattle.std.specs.FinMap.{FinMap}
use Rattle.dm_schema.specs.declared.table_name.TableName.{TableName}
use Rattle.dm_schema.specs.contracts.table_name.TableName.{the_row as name_row}
use Rattle.dm_schema.specs.Layout.{Layout}
use Rattle.dm_table.specs.Coding.{coded_layout}
use Rattle.dm_target.specs.Contents.{table_name_cmp}

-- schemas under the names of their tables
abbrev pub KnownMap : Type 0
KnownMap = FinMap table_name_cmp Layout

abbrev pub coded_known : Coded KnownMap
coded_known = fin.code name_row.coded coded_layout

abbrev pub schema_in : KnownMap → TableName → Option Layout
schema_in known table = fin.get known table
