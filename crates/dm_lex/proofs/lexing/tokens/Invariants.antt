use Rattle.std.proofs.Common.{◌≡◌, length, ◌-◌}
use Rattle.dm_lex.specs.Tokens.{lexed, lexed_of}
use Rattle.dm_lex.proofs.TokenLemmas.{with_front}
use Rattle.dm_lex.proofs.lexing.tokens.Given as goal

abbrev pub invariant-loop-token : goal.invariant-loop-token
invariant-loop-token l = (with_front l.made.items (lexed l.lexer) ≡ lexed_of l.text) × (l.lexer.text ≡ l.text)

abbrev pub decreases-loop-token : goal.decreases-loop-token
decreases-loop-token l = length l.text - l.lexer.at
