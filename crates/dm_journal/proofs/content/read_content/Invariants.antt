use Rattle.std.proofs.Common.{◌-◌, length}
use Rattle.dm_journal.proofs.Taking.{IsReached}
use Rattle.dm_journal.proofs.content.read_content.Given as goal

abbrev pub invariant-records : goal.invariant-records
invariant-records l = IsReached l.bytes l.whole l.target l.known

abbrev pub decreases-records : goal.decreases-records
decreases-records l = length l.initial.bytes - l.whole
