use Rattle.std.proofs.Common.{◌≡◌, take, map}
use Rattle.dm_table.specs.Alterations.{reshaped_value}
use Rattle.dm_table.proofs.altering.reshaped_row.Given as goal

abbrev pub invariant-loop-column : goal.invariant-loop-column
invariant-loop-column l = l.values.items ≡ map (reshaped_value l.before l.row) (take l.column-index l.after)
