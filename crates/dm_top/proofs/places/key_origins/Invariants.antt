use Rattle.std.proofs.Common.{◌≡◌, take}
use Rattle.dm_top.specs.Places.{key_origins}
use Rattle.dm_top.proofs.places.key_origins.Given as goal

abbrev pub invariant-loop-name : goal.invariant-loop-name
invariant-loop-name l = l.origins.items ≡ key_origins l.columns (take l.name-index l.names)
