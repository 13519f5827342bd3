use Rattle.std.proofs.Common.{◌≡◌, take, not}
use Rattle.std.specs.List.{filter}
use Rattle.dm_schema.specs.Names.{same_name}
use Rattle.dm_alter.proofs.uniques.without_key.Given as goal

abbrev pub invariant-loop-key : goal.invariant-loop-key
invariant-loop-key l = l.rest.items ≡ filter (λ k. not (same_name k.name l.name)) (take l.key-index l.uniques)
