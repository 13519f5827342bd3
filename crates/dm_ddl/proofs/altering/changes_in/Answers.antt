use Rattle.dm_ddl.specs.Bounds.{items_of}
use Rattle.dm_ddl.specs.Altering.{changes_in}
use Rattle.dm_ddl.proofs.Definitions.{changes_step}
use Rattle.dm_ddl.proofs.altering.changes_in.Goals as goal

pub loop-item-preserved : goal.loop-item-preserved
loop-item-preserved c =
    changes_step c.args.text.now c.loop-item.changes.items c.push_all.new.all.items c.in_ok-changes_of.field-0.items (items_of c.loop-item.rest.now) c.in-Some.item.now (items_of c.in-Some.behind.now)
    (changes_in c.args.text.now (items_of c.args.pieces.now)) c.in_ok-push_all.ensures c.in-Some.ensures.some c.in_ok-changes_of.ensures c.loop-item.invariant
