use Rattle.std.proofs.Common.{◌^◌, ◌-◌, min}
use Rattle.dm_track.specs.Histories.{values_from}
use Rattle.dm_track.proofs.Numbers.{all_counted}
use Rattle.dm_track.proofs.history.values_from.Goals as goal

pub returns : goal.returns
returns c =
    all_counted c.loop-item.layout.now c.loop-item.left.now c.args.items.now c.loop-item.count c.loop-item.item-index (min (values_from c.args.first.now c.args.later.now c.args.items.now) (2 ^ 64 - 1)) c.loop-item-test.false
    c.loop-item.invariant.small c.loop-item.invariant.values
