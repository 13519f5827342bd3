-- The codes of what a table and its staged rows hold, by which they may be the values of types of the program.
use Rattle.std.specs.Prelude.{List, refl}
use Rattle.std.specs.Coded.{Coded, code_by, coded×, coded_list, coded_option, coded_ℕ}
use Rattle.std.specs.FinMap as fin
use Rattle.dm_value.specs.Order.{coded_row}
use Rattle.dm_schema.specs.contracts.column.Column.{the_row as column_row}
use Rattle.dm_schema.specs.contracts.column.UniqueKey.{the_row as unique_row}
use Rattle.dm_schema.specs.declared.column.Column.{Column}
use Rattle.dm_schema.specs.declared.column.UniqueKey.{UniqueKey}
use Rattle.dm_schema.specs.Layout.{Layout}
use Rattle.dm_schema.specs.Names.{Text}
use Rattle.dm_table.specs.Contents.{RowMap, TableContent}
use Rattle.dm_table.specs.Staging.{ChangeMap, Staging}

abbrev pub coded_layout : Coded Layout
coded_layout =
    code_by (List Column × (List Text × List UniqueKey)) (coded× (coded_list column_row.coded) (coded× (coded_list (coded_list coded_ℕ)) (coded_list unique_row.coded)))
    (λ l. (l.columns, (l.primary, l.uniques))) (λ p. record { columns = p.0; primary = p.1.0; uniques = p.1.1 }) (λ _. refl)

abbrev pub coded_table : Coded TableContent
coded_table = code_by (Layout × RowMap) (coded× coded_layout (fin.code coded_row coded_row)) (λ t. (t.layout, t.rows)) (λ p. record { layout = p.0; rows = p.1 }) (λ _. refl)

abbrev pub coded_changes : Coded ChangeMap
coded_changes = fin.code coded_row (coded_option coded_row)

abbrev pub coded_staging : Coded Staging
coded_staging = code_by (RowMap × ChangeMap) (coded× (fin.code coded_row coded_row) coded_changes) (λ s. (s.base, s.changes)) (λ p. record { base = p.0; changes = p.1 }) (λ _. refl)
