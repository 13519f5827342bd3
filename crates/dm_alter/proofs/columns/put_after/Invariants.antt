use Rattle.std.proofs.Common.{◌≡◌, take}
use Rattle.dm_schema.specs.Effect.{put_after}
use Rattle.dm_alter.proofs.columns.put_after.Given as goal

abbrev pub invariant-loop-other : goal.invariant-loop-other
invariant-loop-other l = l.all.items ≡ put_after l.name l.column (take l.other-index l.columns)
