use Rattle.std.specs.Prelude.{codes}
use Rattle.dm_text.specs.Names.{table_name_text}
use Rattle.dm_stmt.specs.Texts.{where_text}
use Rattle.dm_stmt.proofs.Joins.{four_joined}
use Rattle.dm_stmt.proofs.ops.push_delete.Goals as goal

pub returns : goal.returns
returns c =
    four_joined c.args.out.now.items (codes "DELETE FROM ") (table_name_text c.args.table.now) (where_text c.args.schema.now c.args.key.now) c.args.end.now _ _ _ _ c.in_ok-extend_from_slice.ensures.items c.in_ok-push_table_name.ensures
    c.in_ok-push_where.ensures c.in_ok-extend_from_slice-2.ensures.items
