use Rattle.std.proofs.Common.{◌≡◌, ◌++◌, map, take}
use Rattle.dm_schema.specs.declared.change.Change.TheVariants as change
use Rattle.dm_join.proofs.altering.drop_keys.Given as goal

abbrev pub invariant-loop-key : goal.invariant-loop-key
invariant-loop-key l = l.changes.items ≡ l.fn.changes.items ++ map (λ k. change.DropKey k.name) (take l.key-index l.keys)
