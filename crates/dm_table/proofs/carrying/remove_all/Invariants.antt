use Rattle.std.proofs.Common.{◌≡◌, drop}
use Rattle.dm_table.specs.Staging.{removed_all}
use Rattle.dm_table.proofs.carrying.remove_all.Given as goal

abbrev pub invariant-loop-key : goal.invariant-loop-key
invariant-loop-key l = removed_all (drop l.key-index l.keys) l.rows ≡ removed_all l.keys l.initial.rows
