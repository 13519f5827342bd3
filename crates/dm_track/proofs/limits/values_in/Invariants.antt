use Rattle.std.proofs.Common.{◌≡◌, ◌^◌, ◌-◌, take, min}
use Rattle.dm_track.specs.Builds.{values_in}
use Rattle.dm_track.proofs.limits.values_in.Given as goal

abbrev pub invariant-loop-history : goal.invariant-loop-history
invariant-loop-history l = l.count ≡ min (values_in (take l.history-index l.histories)) (2 ^ 64 - 1)
