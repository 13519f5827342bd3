use Rattle.std.proofs.Common.{sym}
use Rattle.dm_ddl.specs.Bounds.{items_of}
use Rattle.dm_ddl.specs.Creating.{columns_in}
use Rattle.dm_ddl.proofs.Definitions.{columns_step}
use Rattle.dm_ddl.proofs.creating.columns_in.Goals as goal

pub loop-item-preserved-in_ok-push : goal.loop-item-preserved-in_ok-push
loop-item-preserved-in_ok-push c =
    columns_step c.args.text.now c.args.primary.now c.loop-item.columns.items c.push.new.self.items c.in_ok-column_in.field-0 (items_of c.loop-item.rest.now) c.in-Some.item.now (items_of c.in-Some.behind.now)
    (columns_in c.args.text.now c.args.primary.now (items_of c.args.pieces.now)) c.in_ok-push.ensures.items c.in-Some.ensures.some (sym c.if-has_role.ensures) c.in_ok-column_in.ensures.value c.loop-item.invariant
