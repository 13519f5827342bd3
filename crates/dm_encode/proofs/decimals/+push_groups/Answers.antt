use Rattle.std.proofs.Common.{arith, ◌+◌}
use Rattle.std.proofs.lemmas.Result.{on_ok_weaker}
use Rattle.dm_encode.proofs.GroupsBack.{groups_first, top_small}
use Rattle.dm_encode.proofs.decimals.+push_groups.Goals as goal

pub overflow_cast-number : goal.overflow_cast-number
overflow_cast-number t c =
    let top = top_small c.args.number c.power_behind-power.result c.in-Some.group.digits (c.in-Some.group.whole + c.in-Some.group.fraction) (c.args.whole + c.args.fraction) c.power_behind-power.ensures.value c.in-Some.ensures.parted c.in-Some.ensures.few c.requires.number in
    omega (arith, top)

pub returns : goal.returns
returns t c =
    on_ok_weaker c.push_groups.result
    (λ rest. groups_first c.args.negative c.args.number c.power_behind-power.result c.in-Some.group.digits c.in-Some.group.whole c.in-Some.group.fraction c.group_width-width.result _ _ _ _ c.in-Some.ensures.groups c.power_behind-power.ensures.value c.group_width-width.ensures.width c.in_ok-push_group.ensures rest)
    c.push_groups.ensures
