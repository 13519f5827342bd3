use Rattle.std.proofs.Common.{◌≡◌, ◌++◌, drop, codes}
use Rattle.dm_stmt_read.specs.Readers.{and_then, just, each}
use Rattle.dm_stmt_read.specs.Lines.{condition}
use Rattle.dm_stmt_read.proofs.ops.conditions.Given as goal

abbrev pub invariant-loop-name : goal.invariant-loop-name
invariant-loop-name l = and_then (each (condition l.schema.columns) l.mark (codes " AND ") (drop l.name-index l.names) l.left) (λ vs. just (l.values.items ++ vs)) ≡ each (condition l.schema.columns) (codes " WHERE ") (codes " AND ") l.names l.initial.left
