use Rattle.std.proofs.Common.{◌≡◌, ◌++◌, map}
use Rattle.std.specs.BTreeMap.{values}
use Rattle.dm_report.proofs.shows.in_order.Given as goal

-- the rows so far with those to come are all
abbrev pub invariant-loop-row : goal.invariant-loop-row
invariant-loop-row l = map (λ row. row.now) l.listed.items ++ l.row-iterator ≡ values l.rows
