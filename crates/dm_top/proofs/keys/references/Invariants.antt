use Rattle.std.proofs.Common.{◌≡◌, take, map}
use Rattle.dm_top.proofs.keys.references.Given as goal

abbrev pub invariant-loop-row : goal.invariant-loop-row
invariant-loop-row l = map (λ row. row.now) l.lent.items ≡ take l.row-index l.rows
