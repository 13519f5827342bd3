use Rattle.std.proofs.Common.{◌≡◌, ◌++◌, length}
use Rattle.dm_lex.specs.Literals.{unquoted}
use Rattle.dm_lex.proofs.string.unquoted.Given as goal

abbrev pub invariant-loop-rest : goal.invariant-loop-rest
invariant-loop-rest l = l.text.items ++ unquoted l.quote l.rest ≡ unquoted l.quote l.bytes

abbrev pub decreases-loop-rest : goal.decreases-loop-rest
decreases-loop-rest l = length l.rest
