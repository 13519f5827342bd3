use Rattle.std.proofs.Common.{arith, ◌+◌, ◌-◌}
use Rattle.std.proofs.lemmas.Result.{on_ok_weaker}
use Rattle.dm_encode.proofs.GroupsBack.{decimal_first, decimal_small, decimal_top, magnitude_is, sign_is}
use Rattle.dm_encode.proofs.decimals.push_decimal.Goals as goal

pub overflow_cast-first : goal.overflow_cast-first
overflow_cast-first c =
    let top = decimal_top c.args.precision c.args.scale c.magnitude-number.result c.power_behind-power.result c.in-Some.group.digits c.in-Some.group.whole c.in-Some.group.fraction c.args.digits c.requires.scale (magnitude_is c.magnitude-number.result c.args.digits c.ranges.digits c.magnitude-number.ensures) c.in-Some.ensures.few c.in-Some.ensures.parted c.power_behind-power.ensures.value c.requires.fits in
    omega (arith, top)

pub overflow_add-first : goal.overflow_add-first
overflow_add-first c =
    let top = decimal_top c.args.precision c.args.scale c.magnitude-number.result c.power_behind-power.result c.in-Some.group.digits c.in-Some.group.whole c.in-Some.group.fraction c.args.digits c.requires.scale (magnitude_is c.magnitude-number.result c.args.digits c.ranges.digits c.magnitude-number.ensures) c.in-Some.ensures.few c.in-Some.ensures.parted c.power_behind-power.ensures.value c.requires.fits in
    omega (arith, top, c.sign_bit.ensures.most)

pub returns : goal.returns
returns c =
    on_ok_weaker c.push_groups.result
    (λ rest. decimal_first c.is_negative-negative.result c.args.precision c.args.scale c.args.digits c.magnitude-number.result c.power_behind-power.result c.in-Some.group.digits c.in-Some.group.whole c.in-Some.group.fraction c.group_width-width.result c.sign_bit.result (c.args.precision - c.args.scale + c.args.scale) _ _ _
    (magnitude_is c.magnitude-number.result c.args.digits c.ranges.digits c.magnitude-number.ensures) (sign_is c.is_negative-negative.result c.args.digits c.ranges.digits c.is_negative-negative.ensures) c.in-Some.ensures.groups c.in-Some.ensures.some c.in-Some.ensures.few c.in-Some.ensures.parted
    (decimal_small c.args.precision c.magnitude-number.result (c.args.precision - c.args.scale + c.args.scale) c.args.digits (magnitude_is c.magnitude-number.result c.args.digits c.ranges.digits c.magnitude-number.ensures) (omega (arith, c.requires.scale)) c.requires.fits)
    c.power_behind-power.ensures.value c.group_width-width.ensures.width c.sign_bit.ensures.value c.in_ok-push_group.ensures rest)
    c.push_groups.ensures
