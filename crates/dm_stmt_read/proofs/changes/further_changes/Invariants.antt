use Rattle.std.proofs.Common.{◌≡◌, ◌-◌}
use Rattle.dm_stmt_read.specs.Readers.{up_to, further}
use Rattle.dm_stmt_read.specs.Lines.{next_change}
use Rattle.dm_stmt_read.proofs.changes.further_changes.Given as goal

abbrev pub invariant-loop : goal.invariant-loop
invariant-loop l = up_to next_change (l.end - l.counter) l.changes.items l.left ≡ further next_change l.initial.changes.items l.initial.left
