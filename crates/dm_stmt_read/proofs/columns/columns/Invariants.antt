use Rattle.std.proofs.Common.{◌≡◌, ◌-◌, []}
use Rattle.dm_stmt_read.specs.Readers.{up_to, further}
use Rattle.dm_stmt_read.specs.Columns.{next_column}
use Rattle.dm_stmt_read.proofs.columns.columns.Given as goal

abbrev pub invariant-loop : goal.invariant-loop
invariant-loop l = up_to next_column (l.end - l.counter) l.columns.items l.left ≡ further next_column [] l.initial.left
