-- A table of a target is printed as its schema and its rows in order are.
use Rattle.std.proofs.Common.{◌≡◌, ℕ, List, ◌++◌, length, sym, ap, ◌∙◌, append_assoc}
use Rattle.std.specs.Prelude.{codes}
use Rattle.std.specs.BTreeMap.{BTreeMap, values}
use Rattle.std.specs.Map.{values_of}
use Rattle.std.specs.FinMap as fin
use Rattle.std.specs.FinMap.{len-entries}
use Rattle.std.proofs.lemmas.Map.Entries.{length-values_of}
use Rattle.dm_schema.specs.declared.table_name.TableName.{TableName}
use Rattle.dm_schema.specs.Layout.{Layout}
use Rattle.dm_table.specs.Contents.{Row, TableContent}
use Rattle.dm_text.specs.Names.{table_name_text}
use Rattle.dm_report.specs.Faults.{behind_blank}
use Rattle.dm_report.specs.Texts.{table_text}
use Rattle.dm_report.specs.Shows.{table_part}

-- the text of a layout and rows in order
abbrev rows_text : Layout → List Row → ℕ → List ℕ
rows_text layout rows count = table_text layout.columns layout.primary layout.uniques rows count

pub table_printed : (name : TableName) (table : TableContent) (layout : Layout) (rows : BTreeMap Row Row) (listed : List Row) (old title last : List ℕ) → layout ≡ table.layout → rows.entries ≡ fin.entries table.rows
    → listed ≡ values rows → title ≡ old ++ (codes "table" ++ behind_blank (table_name_text name) ++ codes "\n")
    → last ≡ title ++ table_text layout.columns layout.primary layout.uniques listed (length listed) → last ≡ old ++ table_part (name, table)
table_printed name table layout rows listed old title last same_layout same_rows in_order first behind =
    let count : length (values rows) ≡ fin.len table.rows = length-values_of rows.entries ∙ ap length same_rows ∙ sym (len-entries table.rows) in
    behind ∙ ap (λ rs. title ++ rows_text layout rs (length rs)) in_order
    ∙ ap (λ (l : Layout). title ++ rows_text l (values rows) (length (values rows))) same_layout
    ∙ ap (λ n. title ++ rows_text table.layout (values rows) n) count
    ∙ ap (λ es. title ++ rows_text table.layout (values_of es) (fin.len table.rows)) same_rows
    ∙ ap (λ xs. xs ++ rows_text table.layout (fin.values table.rows) (fin.len table.rows)) first
    ∙ append_assoc old (codes "table" ++ behind_blank (table_name_text name) ++ codes "\n") (rows_text table.layout (fin.values table.rows) (fin.len table.rows))
