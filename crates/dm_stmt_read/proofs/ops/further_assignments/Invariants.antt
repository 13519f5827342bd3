use Rattle.std.proofs.Common.{◌≡◌, ◌-◌}
use Rattle.dm_stmt_read.specs.Readers.{pairs_up_to, further_pairs}
use Rattle.dm_stmt_read.specs.Lines.{next_assignment}
use Rattle.dm_stmt_read.proofs.ops.further_assignments.Given as goal

abbrev pub invariant-loop : goal.invariant-loop
invariant-loop l =
    pairs_up_to (next_assignment l.schema.columns) (l.end - l.counter) l.names.items l.values.items l.left ≡ further_pairs (next_assignment l.schema.columns) l.initial.names.items l.initial.values.items l.initial.left
