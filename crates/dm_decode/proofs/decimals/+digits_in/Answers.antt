use Rattle.std.proofs.Common.{◌+◌, ◌*◌, ◌^◌, length, refl, ap, ◌∙◌, arith}
use Rattle.dm_decode.specs.Decimals.{digits_in, groups}
use Rattle.dm_decode.specs.Upright.{upright_behind}
use Rattle.dm_decode.proofs.Groups.{behind_wide, digits_step, other_bytes, own_bytes, room_is, room_less}
use Rattle.dm_decode.proofs.decimals.+digits_in.Goals as goal

pub overflow_mul-before : goal.overflow_mul-before
overflow_mul-before t c =
    let group = c.in-Some.group in
    let room = room_is c.args.before c.power_of_ten-power.result c.group_of-number.result group.digits (group.whole + group.fraction) (c.args.whole + c.args.fraction) (10 ^ 38) c.from-2.result c.group_of-number.result c.requires.room c.in-Some.ensures.parted c.power_of_ten-power.ensures c.if-number-power.false c.from-2.ensures refl in
    let less = room_less _ _ _ room in
    omega (arith, less)

pub overflow_add-before : goal.overflow_add-before
overflow_add-before t c =
    let group = c.in-Some.group in
    let room = room_is c.args.before c.power_of_ten-power.result c.group_of-number.result group.digits (group.whole + group.fraction) (c.args.whole + c.args.fraction) (10 ^ 38) c.from-2.result c.from-3.result c.requires.room c.in-Some.ensures.parted c.power_of_ten-power.ensures c.if-number-power.false c.from-2.ensures c.from-3.ensures in
    let less = room_less _ _ _ room in
    omega (arith, less)

pub digits_in-requires : goal.digits_in-requires
digits_in-requires t c =
    let group = c.in-Some.group in
    let wide = behind_wide c.args.whole c.args.fraction group.digits group.whole group.fraction (length c.args.bytes.now) c.in-Some.ensures.groups c.requires.wide in (
      omega (arith, c.in-Some.ensures.some, c.in-Some.ensures.parted, c.decreases),
      (
        omega (arith, wide, c.split_at.ensures.back_len, c.from.ensures, c.group_width.ensures.width),
        room_is c.args.before c.power_of_ten-power.result c.group_of-number.result group.digits (group.whole + group.fraction) (c.args.whole + c.args.fraction) (10 ^ 38) c.from-2.result c.from-3.result c.requires.room c.in-Some.ensures.parted c.power_of_ten-power.ensures c.if-number-power.false c.from-2.ensures c.from-3.ensures,
      ),
    )

pub returns-clause-value : goal.returns-clause-value
returns-clause-value t c =
    let group = c.in-Some.group in
    digits_step group.digits c.args.sign.bit c.args.before c.from-3.result c.args.sign.negative _ _ c.args.bytes.now c.split_at.result.0.now c.split_at.result.1.now c.digits_in.result
    c.in-Some.ensures.some c.in-Some.ensures.few c.in-Some.ensures.groups (own_bytes c.group_width.result c.from.result group.digits _ _ c.group_width.ensures.width c.from.ensures c.split_at.ensures.front) (other_bytes c.group_width.result c.from.result group.digits _ _ c.group_width.ensures.width c.from.ensures c.split_at.ensures.back)
    (c.from-3.ensures ∙ c.group_of-number.ensures) (omega (arith, c.from-3.ensures, c.power_of_ten-power.ensures)) (c.digits_in.ensures.value ∙ ap (λ p. digits_in (groups group.whole group.fraction) (c.args.before * p + c.from-3.result) (upright_behind 0 c.args.sign.negative c.split_at.result.1.now)) (c.from-2.ensures ∙ c.power_of_ten-power.ensures))
