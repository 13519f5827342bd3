use Rattle.std.proofs.Common.{drop}
use Rattle.dm_table.proofs.Room.{Filling}
use Rattle.dm_table.proofs.carrying.put_empty.Given as goal

abbrev pub invariant-loop-key : goal.invariant-loop-key
invariant-loop-key l = Filling l.keys (drop l.key-index l.keys) l.initial.rows l.rows
