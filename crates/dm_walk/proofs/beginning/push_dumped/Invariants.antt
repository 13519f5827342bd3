use Rattle.std.proofs.Common.{◌≡◌, ◌++◌, map, take}
use Rattle.dm_walk.specs.Walks.{dumped_item}
use Rattle.dm_walk.proofs.beginning.push_dumped.Given as goal

abbrev pub invariant-loop-at : goal.invariant-loop-at
invariant-loop-at l = l.items.items ≡ l.initial.items.items ++ map (dumped_item l.file.number) (take l.at-index l.at-items)
