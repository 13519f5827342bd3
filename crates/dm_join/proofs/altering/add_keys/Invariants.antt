use Rattle.std.proofs.Common.{◌≡◌, true, ◌++◌, map, take}
use Rattle.dm_schema.specs.declared.change.Change.TheVariants as change
use Rattle.dm_join.proofs.altering.add_keys.Given as goal

abbrev pub invariant-loop-key : goal.invariant-loop-key
invariant-loop-key l = l.changes.items ≡ l.fn.changes.items ++ map (λ k. change.AddUnique k true) (take l.key-index l.keys)
