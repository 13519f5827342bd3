use Rattle.std.specs.Prelude.{codes}
use Rattle.dm_text.proofs.Joins.{five_joined}
use Rattle.dm_write.specs.Dumps.{tuples_text}
use Rattle.dm_write.proofs.dumps.push_insert.Goals as goal

pub returns : goal.returns
returns c =
    five_joined c.args.out.now.items (codes "INSERT INTO ") c.args.name.now (codes " VALUES ") (tuples_text c.args.columns.now c.args.rows.now) (codes ";\n") _ _ _ _ _ c.in_ok-extend_from_slice.ensures.items c.in_ok-extend_from_slice-2.ensures.items c.in_ok-extend_from_slice-3.ensures.items c.in_ok-push_tuples.ensures c.in_ok-extend_from_slice-4.ensures.items
