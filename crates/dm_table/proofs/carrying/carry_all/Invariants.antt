use Rattle.std.proofs.Common.{◌≡◌, length}
use Rattle.std.specs.FinMap as fin
use Rattle.dm_table.specs.Staging.{carried, HasRoom}
use Rattle.dm_table.proofs.carrying.carry_all.Given as goal

abbrev pub invariant-loop-key : goal.invariant-loop-key
invariant-loop-key l = record {
  carried : carried (fin.entries l.changes) l.rows ≡ carried (fin.entries l.initial.changes) l.initial.rows;
  room : HasRoom l.changes l.rows;
}

abbrev pub decreases-loop-key : goal.decreases-loop-key
decreases-loop-key l = length (fin.entries l.changes)
