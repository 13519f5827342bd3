-- What is asked of a call, whatever becomes of it.
use Rattle.std.specs.Prelude.{Bool, true, not, ◌&&◌, ◌==◌, length, codes}
use Rattle.std.specs.List.{list_all}
use Rattle.std.specs.Option.{option_map_or}
use Rattle.dm_schema.specs.declared.table_name.TableName.{TableName}
use Rattle.dm_schema.specs.Names.{same_name}
use Rattle.dm_schema.specs.Schemas.{schema_equal}
use Rattle.dm_table.specs.Shapes.{is_shaped}
use Rattle.dm_target.specs.declared.call.Call.{Call}
use Rattle.dm_target.specs.declared.call.Call.TheVariants as call
use Rattle.dm_target.specs.Contents.{Content, table_of}

-- the table of the texts under names, which is no target's
abbrev pub is_meta_table : TableName → Bool
is_meta_table table = same_name table.db (codes "dm_meta") && same_name table.table (codes "state")

-- A call of a table that isn't kept for other things, with one operation or one text at least. Where the table is there, an
-- alteration is to another schema, and operations have the shape that its schema asks.
abbrev pub is_proper : Call → Content → Bool
is_proper (call.Create table layout) content = not (is_meta_table table)
is_proper (call.Alter table layout) content = not (is_meta_table table) && option_map_or (λ there. not (schema_equal there.layout layout)) (table_of content table) true
is_proper (call.Apply table ops) content = not (is_meta_table table) && not (length ops == 0) && option_map_or (λ there. list_all (is_shaped there.layout) ops) (table_of content table) true
is_proper (call.Metas pairs) content = not (length pairs == 0)
