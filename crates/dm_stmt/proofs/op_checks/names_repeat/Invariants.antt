use Rattle.std.proofs.Common.{◌≡◌, length}
use Rattle.dm_schema.specs.Schemas.{names_repeat}
use Rattle.dm_stmt.proofs.op_checks.names_repeat.Given as goal

abbrev pub invariant-loop-rest : goal.invariant-loop-rest
invariant-loop-rest l = names_repeat l.rest ≡ names_repeat l.names

abbrev pub decreases-loop-rest : goal.decreases-loop-rest
decreases-loop-rest l = length l.rest
