use Rattle.std.proofs.Common.{◌≡◌}
use Rattle.dm_schema.specs.Effect.{free_name}
use Rattle.dm_alter.proofs.FreeNames.{free_from}
use Rattle.dm_alter.proofs.uniques.free_name.Given as goal

abbrev pub invariant-loop-number : goal.invariant-loop-number
invariant-loop-number l = free_from l.uniques l.name l.number ≡ free_name l.uniques l.name
