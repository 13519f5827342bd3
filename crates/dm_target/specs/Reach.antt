-- What a call may change.
use Rattle.std.specs.Prelude.{Bool, false}
use Rattle.std.specs.List.{list_any}
use Rattle.std.specs.Ordering.{eq_by_cmp}
use Rattle.dm_schema.specs.declared.table_name.TableName.{TableName}
use Rattle.dm_schema.specs.Names.{Text, name_cmp}
use Rattle.dm_target.specs.declared.call.Call.{Call}
use Rattle.dm_target.specs.declared.call.Call.TheVariants as call
use Rattle.dm_target.specs.Contents.{table_name_cmp}

-- the call is about the table
abbrev pub touches : Call → TableName → Bool
touches (call.Create own layout) table = eq_by_cmp table_name_cmp table own
touches (call.Alter own layout) table = eq_by_cmp table_name_cmp table own
touches (call.Apply own ops) table = eq_by_cmp table_name_cmp table own
touches (call.Metas pairs) table = false

-- the call gives the name a text
abbrev pub sets : Call → Text → Bool
sets (call.Create own layout) name = false
sets (call.Alter own layout) name = false
sets (call.Apply own ops) name = false
sets (call.Metas pairs) name = list_any (λ pair. eq_by_cmp name_cmp name pair.name) pairs
