use Rattle.std.proofs.Common.{◌≡◌, length, ◌≤◌, ◌-◌}
use Rattle.dm_lex.specs.Places.{lexed_at}
use Rattle.dm_lex.proofs.lexer.token_from.Given as goal

abbrev pub invariant-loop-from : goal.invariant-loop-from
invariant-loop-from l = (lexed_at l.text l.from ≡ lexed_at l.text l.at) × (l.at ≤ l.from) × (l.from ≤ length l.text)

abbrev pub decreases-loop-from : goal.decreases-loop-from
decreases-loop-from l = length l.text - l.from
