use Rattle.std.proofs.Common.{◌≡◌, ◌++◌, take}
use Rattle.dm_join.proofs.groups.push_copies.Given as goal

abbrev pub invariant-loop-column : goal.invariant-loop-column
invariant-loop-column l = l.columns.items ≡ l.fn.columns.items ++ take l.column-index l.more
