use Rattle.std.proofs.Common.{◌≡◌, ◌-◌, []}
use Rattle.dm_stmt_read.specs.Readers.{up_to, further}
use Rattle.dm_stmt_read.specs.Columns.{next_unique}
use Rattle.dm_stmt_read.proofs.columns.uniques.Given as goal

abbrev pub invariant-loop : goal.invariant-loop
invariant-loop l = up_to next_unique (l.end - l.counter) l.uniques.items l.left ≡ further next_unique [] l.initial.left
