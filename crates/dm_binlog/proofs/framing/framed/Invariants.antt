use Rattle.std.proofs.Common.{◌≡◌, ◌≤◌, ◌-◌, length, drop}
use Rattle.dm_binlog.specs.Framing.{framed}
use Rattle.dm_binlog.proofs.Chain.{with_front}
use Rattle.dm_binlog.proofs.framing.framed.Given as goal

abbrev pub invariant-loop-at : goal.invariant-loop-at
invariant-loop-at l = record {
  value : with_front l.list.items (framed l.last l.at 0 (drop l.at l.file)) ≡ framed l.last 4 0 (drop 4 l.file);
  within : l.at ≤ length l.file;
}

abbrev pub decreases-loop-at : goal.decreases-loop-at
decreases-loop-at l = length l.file - l.at
