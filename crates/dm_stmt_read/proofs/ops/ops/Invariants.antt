use Rattle.std.proofs.Common.{◌≡◌, ◌-◌, []}
use Rattle.dm_stmt_read.specs.Readers.{up_to, further}
use Rattle.dm_stmt_read.specs.Lines.{next_op}
use Rattle.dm_stmt_read.proofs.ops.ops.Given as goal

abbrev pub invariant-loop : goal.invariant-loop
invariant-loop l = up_to (next_op l.schema) (l.end - l.counter) l.ops.items l.left ≡ further (next_op l.schema) [] l.initial.left
