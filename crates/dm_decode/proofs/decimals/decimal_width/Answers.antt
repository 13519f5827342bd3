use Rattle.std.proofs.Common.{◌-◌}
use Rattle.dm_decode.proofs.Groups.{width_is}
use Rattle.dm_decode.proofs.decimals.decimal_width.Goals as goal

pub returns : goal.returns
returns c = width_is (c.args.precision - c.args.scale) c.args.scale c.group_width.result c.group_width-2.result c.group_width.ensures.width c.group_width-2.ensures.width
