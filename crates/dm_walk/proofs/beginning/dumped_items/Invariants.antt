use Rattle.std.proofs.Common.{◌≡◌, take}
use Rattle.std.specs.List.{flat_map}
use Rattle.dm_walk.specs.Walks.{dumped_items}
use Rattle.dm_walk.proofs.beginning.dumped_items.Given as goal

abbrev pub invariant-loop-file : goal.invariant-loop-file
invariant-loop-file l = l.items.items ≡ flat_map dumped_items (take l.file-index l.files)
