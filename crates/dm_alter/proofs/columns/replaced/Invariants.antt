use Rattle.std.proofs.Common.{◌≡◌, take}
use Rattle.dm_schema.specs.Effect.{replaced}
use Rattle.dm_alter.proofs.columns.replaced.Given as goal

abbrev pub invariant-loop-other : goal.invariant-loop-other
invariant-loop-other l = l.all.items ≡ replaced l.column (take l.other-index l.columns)
