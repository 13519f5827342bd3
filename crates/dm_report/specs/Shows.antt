-- What is printed of a target: its tables with their rows, and its texts.
use Rattle.std.specs.Prelude.{ℕ, List, ◌++◌, codes}
use Rattle.std.specs.List.{flat_map}
use Rattle.std.specs.FinMap as fin
use Rattle.dm_schema.specs.declared.table_name.TableName.{TableName}
use Rattle.dm_schema.specs.Names.{Text}
use Rattle.dm_text.specs.Names.{table_name_text}
use Rattle.dm_table.specs.Contents.{TableContent}
use Rattle.dm_target.specs.Contents.{Content}
use Rattle.dm_report.specs.Faults.{behind_blank}
use Rattle.dm_report.specs.Texts.{table_text}

-- table `db`.`table`, and its text
abbrev pub table_part : TableName × TableContent → List ℕ
table_part named =
    codes "table" ++ behind_blank (table_name_text named.0) ++ codes "\n"
    ++ table_text named.1.layout.columns named.1.layout.primary named.1.layout.uniques (fin.values named.1.rows) (fin.len named.1.rows)

-- meta name text
abbrev pub meta_line : Text × Text → List ℕ
meta_line named = codes "meta" ++ behind_blank named.0 ++ behind_blank named.1 ++ codes "\n"

-- tables and texts in byte order of their names
abbrev pub show_text : Content → List ℕ
show_text content = flat_map table_part (fin.entries content.tables) ++ flat_map meta_line (fin.entries content.metas)
