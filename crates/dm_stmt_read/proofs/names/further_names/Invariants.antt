use Rattle.std.proofs.Common.{◌≡◌, ◌-◌}
use Rattle.dm_stmt_read.specs.Readers.{up_to, further, next_name}
use Rattle.dm_stmt_read.proofs.names.further_names.Given as goal

abbrev pub invariant-loop : goal.invariant-loop
invariant-loop l = up_to next_name (l.end - l.counter) l.names.items l.left ≡ further next_name l.initial.names.items l.initial.left
