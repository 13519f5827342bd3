use Rattle.std.proofs.Common.{◌≡◌, take}
use Rattle.dm_top.specs.Sources.{said_of, schemas_of}
use Rattle.dm_top.proofs.sources.schemas_of.Given as goal

abbrev pub invariant-loop-source : goal.invariant-loop-source
invariant-loop-source l = l.schemas.items ≡ schemas_of (said_of (take l.source-index l.sources))
