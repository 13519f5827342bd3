use Rattle.std.proofs.Common.{◌≡◌, take}
use Rattle.dm_schema.specs.Rows.{values_at}
use Rattle.dm_schema.proofs.rows.values_at.Given as goal

abbrev pub invariant-loop-name : goal.invariant-loop-name
invariant-loop-name l = l.values.items ≡ values_at l.columns l.row (take l.name-index l.names)
