use Rattle.std.proofs.Common.{◌≡◌, take}
use Rattle.std.specs.List.{filter, list_any, list_all}
use Rattle.dm_schema.specs.Schemas.{same_unique}
use Rattle.dm_join.proofs.joining.common_uniques.Given as goal

abbrev pub invariant-loop-key : goal.invariant-loop-key
invariant-loop-key l = l.common.items ≡ filter (λ k. list_all (λ s. list_any (same_unique k) s.uniques) l.schemas) (take l.key-index l.key-items)
