use Rattle.std.proofs.Common.{◌≡◌, length, ◌+◌}
use Rattle.dm_lex.specs.Lexemes.{longer, comment_length}
use Rattle.dm_lex.proofs.closing.comment_length.Given as goal

abbrev pub invariant-loop-rest : goal.invariant-loop-rest
invariant-loop-rest l = (longer l.length (comment_length l.rest) ≡ comment_length l.text) × (l.length + length l.rest ≡ length l.text)

abbrev pub decreases-loop-rest : goal.decreases-loop-rest
decreases-loop-rest l = length l.rest
