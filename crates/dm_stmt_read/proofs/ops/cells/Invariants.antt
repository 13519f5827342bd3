use Rattle.std.proofs.Common.{◌≡◌, ◌++◌, drop, codes}
use Rattle.dm_stmt_read.specs.Readers.{and_then, just, each}
use Rattle.dm_stmt_read.specs.Lines.{marked_cell}
use Rattle.dm_stmt_read.proofs.ops.cells.Given as goal

abbrev pub invariant-loop-name : goal.invariant-loop-name
invariant-loop-name l = and_then (each (marked_cell l.schema.columns) l.mark (codes ",") (drop l.name-index l.names) l.left) (λ vs. just (l.values.items ++ vs)) ≡ each (marked_cell l.schema.columns) (codes " VALUES (") (codes ",") l.names l.initial.left
