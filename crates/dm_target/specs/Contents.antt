-- What a target holds, and what the writing calls leave of it.
use Rattle.std.specs.Prelude.{List, [], ◌∷◌, Option, Some, None, Result, Ok, Err}
use Rattle.std.specs.FinMap as fin
use Rattle.std.specs.FinMap.{FinMap}
use Rattle.dm_value.specs.declared.value.Value.{Value}
use Rattle.dm_schema.specs.declared.table_name.TableName.{TableName}
use Rattle.dm_schema.specs.contracts.table_name.TableNameOrd.TheImpl as table_name_ord
use Rattle.dm_schema.specs.Layout.{Layout}
use Rattle.dm_schema.specs.Names.{Text, name_cmp}
use Rattle.std.specs.declared.cmp.Ordering.{Ordering}
use Rattle.dm_table.specs.declared.fault.TableFault.{TableFault}
use Rattle.dm_table.specs.declared.fault.TableFault.TheVariants as fault
use Rattle.dm_table.specs.Contents.{TableContent, new_table}
use Rattle.dm_table.specs.Operations.{table_applied}
use Rattle.dm_table.specs.Alterations.{altered}
use Rattle.dm_target.specs.declared.call.Meta.{Meta}
use Rattle.dm_target.specs.declared.call.Call.{Call}
use Rattle.dm_target.specs.declared.call.Call.TheVariants as call

abbrev pub table_name_cmp : TableName → TableName → Ordering
table_name_cmp = (table_name_ord.ghosts).cmp

-- tables and texts by their names
pub record Content : Type 0 where
  pub tables : FinMap table_name_cmp TableContent
  pub metas : FinMap name_cmp Text

abbrev pub no_content : Content
no_content = record { tables = fin.empty; metas = fin.empty }

abbrev pub table_of : Content → TableName → Option TableContent
table_of content name = fin.get content.tables name

abbrev pub meta_of : Content → Text → Option Text
meta_of content name = fin.get content.metas name

-- the rows of a table in order of the primary key, if it is there
abbrev pub rows_of : Option TableContent → List (List Value)
rows_of None = []
rows_of (Some table) = fin.values table.rows

abbrev pub with_table : Content → TableName → Result TableContent TableFault → Result Content TableFault
with_table content name (Err f) = Err f
with_table content name (Ok table) = Ok (record { tables = fin.insert content.tables name table; metas = content.metas })

-- each text under its name, in place of an earlier one
abbrev pub with_metas : List Meta → FinMap name_cmp Text → FinMap name_cmp Text
with_metas [] texts = texts
with_metas (pair ∷ pairs) texts = with_metas pairs (fin.insert texts pair.name pair.text)

-- a table that isn't there is made
abbrev pub created : Option TableContent → Layout → Result TableContent TableFault
created None layout = Ok (new_table layout)
created (Some table) layout = Err fault.TableExists

-- one that is there is altered, or operations are applied to it
abbrev pub if_there : Option TableContent → (TableContent → Result TableContent TableFault) → Result TableContent TableFault
if_there None change = Err fault.NoTable
if_there (Some table) change = change table

-- what a call leaves, or why it leaves nothing
abbrev pub effect : Call → Content → Result Content TableFault
effect (call.Create name layout) content = with_table content name (created (table_of content name) layout)
effect (call.Alter name layout) content = with_table content name (if_there (table_of content name) (λ table. altered table layout))
effect (call.Apply name ops) content = with_table content name (if_there (table_of content name) (λ table. table_applied table ops))
effect (call.Metas pairs) content = Ok (record { tables = content.tables; metas = with_metas pairs content.metas })

abbrev pub and_then : Result Content TableFault → (Content → Result Content TableFault) → Result Content TableFault
and_then (Err f) behind = Err f
and_then (Ok content) behind = behind content

-- what calls leave, one after another
abbrev pub effects : List Call → Content → Result Content TableFault
effects [] content = Ok content
effects (first ∷ rest) content = and_then (effect first content) (effects rest)
