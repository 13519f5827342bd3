use Rattle.std.proofs.Common.{◌≡◌, take}
use Rattle.std.specs.List.{flat_map}
use Rattle.dm_safe.specs.Modes.{ops_in}
use Rattle.dm_safe.proofs.ops.ops_of.Given as goal

abbrev pub invariant-loop-change : goal.invariant-loop-change
invariant-loop-change l = l.ops.items ≡ flat_map (ops_in l.mode l.schema) (take l.change-index l.changes)
