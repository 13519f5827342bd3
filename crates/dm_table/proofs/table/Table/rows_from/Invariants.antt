use Rattle.std.proofs.Common.{◌≡◌, map}
use Rattle.dm_table.proofs.table.Table.rows_from.Given as goal

abbrev pub invariant-loop-row : goal.invariant-loop-row
invariant-loop-row l = l.rows.items ≡ map (λ row. row.now) l.yielded
