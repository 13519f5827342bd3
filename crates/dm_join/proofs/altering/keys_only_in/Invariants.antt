use Rattle.std.proofs.Common.{◌≡◌, not, take}
use Rattle.std.specs.List.{filter, list_any}
use Rattle.dm_schema.specs.Schemas.{same_unique}
use Rattle.dm_join.proofs.altering.keys_only_in.Given as goal

abbrev pub invariant-loop-key : goal.invariant-loop-key
invariant-loop-key l = l.keys.items ≡ filter (λ k. not (list_any (same_unique k) l.there.uniques)) (take l.key-index l.key-items)
