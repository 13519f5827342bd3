-- Tables and texts under their names, and what a change of one table leaves of all.
use Rattle.std.specs.Prelude.{◌≡◌, ⊤, Result, Ok, Err, MatchBool}
use Rattle.std.specs.Coded.{Coded, coded_list, coded_ℕ}
use Rattle.std.specs.FinMap as fin
use Rattle.std.specs.FinMap.{FinMap}
use Rattle.dm_schema.specs.declared.table_name.TableName.{TableName}
use Rattle.dm_schema.specs.contracts.table_name.TableName.{the_row as name_row}
use Rattle.dm_schema.specs.Names.{Text, name_cmp}
use Rattle.dm_table.specs.declared.fault.TableFault.{TableFault}
use Rattle.dm_table.specs.Contents.{TableContent}
use Rattle.dm_table.specs.Coding.{coded_table}
use Rattle.dm_table.specs.Judging.{is_memory}
use Rattle.dm_target.specs.Contents.{table_name_cmp}

abbrev pub TableMap : Type 0
TableMap = FinMap table_name_cmp TableContent

abbrev pub TextMap : Type 0
TextMap = FinMap name_cmp Text

abbrev pub coded_tables : Coded TableMap
coded_tables = fin.code name_row.coded coded_table

abbrev pub coded_texts : Coded TextMap
coded_texts = fin.code (coded_list coded_ℕ) (coded_list coded_ℕ)

-- the tables with what a change leaves of the one of a name
abbrev pub tables_with : TableMap → TableName → Result TableContent TableFault → Result TableMap TableFault
tables_with tables name (Err f) = Err f
tables_with tables name (Ok table) = Ok (fin.insert tables name table)

-- A change of the table of a name is made whole, or, where it is refused or memory is wanting, leaves all tables as they were.
abbrev pub Changes : Result TableContent TableFault → TableName → TableMap → TableMap → Result (Unit {0}) TableFault → Type 0
Changes changed name before now (Ok _) = tables_with before name changed ≡ Ok now
Changes changed name before now (Err f) = MatchBool (is_memory f) ⊤ (changed ≡ Err f) × (now ≡ before)
