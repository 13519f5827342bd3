use Rattle.std.proofs.Common.{◌≡◌, ◌++◌}
use Rattle.std.specs.FinMap as fin
use Rattle.dm_table.specs.Staging.{fresh_keys}
use Rattle.dm_table.proofs.carrying.fresh_keys.Given as goal

abbrev pub invariant-loop-key : goal.invariant-loop-key
invariant-loop-key l = l.keys.items ++ fresh_keys l.rows l.key-iterator ≡ fresh_keys l.rows (fin.entries l.changes)
