use Rattle.std.proofs.Common.{◌≡◌, ◌-◌, []}
use Rattle.dm_stmt_read.specs.Readers.{up_to, further}
use Rattle.dm_stmt_read.specs.Lines.{next_meta}
use Rattle.dm_stmt_read.proofs.metas.metas.Given as goal

abbrev pub invariant-loop : goal.invariant-loop
invariant-loop l = up_to next_meta (l.end - l.counter) l.pairs.items l.left ≡ further next_meta [] l.initial.left
