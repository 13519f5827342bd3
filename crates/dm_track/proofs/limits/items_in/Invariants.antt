use Rattle.std.proofs.Common.{◌≡◌, ◌^◌, ◌-◌, take, min}
use Rattle.dm_track.specs.Builds.{items_in}
use Rattle.dm_track.proofs.limits.items_in.Given as goal

abbrev pub invariant-loop-history : goal.invariant-loop-history
invariant-loop-history l = l.count ≡ min (items_in (take l.history-index l.histories)) (2 ^ 64 - 1)
