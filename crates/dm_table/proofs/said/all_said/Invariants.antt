use Rattle.std.proofs.Common.{◌≡◌, take}
use Rattle.dm_table.proofs.said.all_said.Given as goal

abbrev pub invariant-loop-name : goal.invariant-loop-name
invariant-loop-name l = l.said.items ≡ take l.name-index l.names
