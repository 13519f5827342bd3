use Rattle.std.proofs.Common.{◌≡◌}
use Rattle.std.specs.List.{list_any}
use Rattle.dm_schema.specs.Rows.{cell}
use Rattle.dm_table.specs.Operations.{is_unfit_value}
use Rattle.dm_table.specs.Alterations.{has_unfit}
use Rattle.dm_table.proofs.altering.has_unfit.Given as goal

abbrev pub invariant-loop-row : goal.invariant-loop-row
invariant-loop-row l = list_any (λ row. is_unfit_value (cell l.before row l.column.name) l.column) l.row-iterator ≡ has_unfit l.before l.rows l.column
