use Rattle.std.proofs.Common.{append-nil, refl, arith}
use Rattle.dm_encode.proofs.GroupsBack.{group_last, group_none}
use Rattle.dm_encode.proofs.decimals.+push_group.Goals as goal

pub returns-then-width-eq0 : goal.returns-then-width-eq0
returns-then-width-eq0 t c = rw (c.if-width-eq0.true, group_none c.args.negative c.args.number, append-nil) refl

pub returns : goal.returns
returns t c = group_last c.args.negative c.args.width c.args.number c.inverted.result _ _ _ (omega arith) c.inverted.ensures c.in_ok-push_group.ensures c.in_ok-push.ensures.items
