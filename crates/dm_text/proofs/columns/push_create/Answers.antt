use Rattle.std.specs.Prelude.{codes}
use Rattle.dm_text.specs.Columns.{parts_text}
use Rattle.dm_text.proofs.Joins.{five_joined}
use Rattle.dm_text.proofs.columns.push_create.Goals as goal

pub returns : goal.returns
returns c =
    five_joined c.args.out.now.items (codes "CREATE TABLE ") c.args.name.now (codes " (") (parts_text c.args.schema.now) (codes ");\n") _ _ _ _ _ c.in_ok-extend_from_slice.ensures.items c.in_ok-extend_from_slice-2.ensures.items c.in_ok-extend_from_slice-3.ensures.items c.in_ok-push_parts.ensures c.in_ok-extend_from_slice-4.ensures.items
