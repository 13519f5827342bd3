use Rattle.std.proofs.Common.{◌≡◌, ◌&&◌, ◌==◌, length, ◌+◌}
use Rattle.dm_lex.specs.Lexemes.{longer, closed_length}
use Rattle.dm_lex.proofs.closing.closed_length.Given as goal

abbrev pub invariant-loop-rest : goal.invariant-loop-rest
invariant-loop-rest l =
    (longer l.length (closed_length (λ b. l.escapes && b == 92) l.quote l.rest) ≡ closed_length (λ b. l.escapes && b == 92) l.quote l.text)
    × (l.length + length l.rest ≡ length l.text)

abbrev pub decreases-loop-rest : goal.decreases-loop-rest
decreases-loop-rest l = length l.rest
