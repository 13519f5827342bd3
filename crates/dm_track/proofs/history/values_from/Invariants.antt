use Rattle.std.proofs.Common.{◌≡◌, ◌+◌, ◌^◌, ◌-◌, ◌<◌, drop, min}
use Rattle.dm_track.specs.Histories.{values_from}
use Rattle.dm_track.proofs.history.values_from.Given as goal

abbrev pub invariant-loop-item : goal.invariant-loop-item
invariant-loop-item l = record {
  values : min (l.count + values_from l.layout l.left (drop l.item-index l.items)) (2 ^ 64 - 1) ≡ min (values_from l.first l.later l.items) (2 ^ 64 - 1);
  small : l.count < 2 ^ 64;
}
