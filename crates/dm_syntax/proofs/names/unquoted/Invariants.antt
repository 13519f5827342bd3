use Rattle.std.proofs.Common.{◌≡◌, ◌++◌, length}
use Rattle.dm_syntax.specs.Names.{unquoted}
use Rattle.dm_syntax.proofs.names.unquoted.Given as goal

abbrev pub invariant-loop-rest : goal.invariant-loop-rest
invariant-loop-rest l = l.name.items ++ unquoted l.rest ≡ unquoted l.bytes

abbrev pub decreases-loop-rest : goal.decreases-loop-rest
decreases-loop-rest l = length l.rest
