use Rattle.std.proofs.Common.{◌≡◌, ◌++◌, length}
use Rattle.dm_lex.specs.Tokens.{lexed}
use Rattle.dm_dump.specs.Literals.{literals_from, literals_at}
use Rattle.dm_dump.proofs.literal.literals_at.Given as goal

abbrev pub invariant-loop-token : goal.invariant-loop-token
invariant-loop-token l = l.literals.items ++ literals_from l.text l.waiting (lexed l.lexer).tokens ≡ literals_at l.text l.at

abbrev pub decreases-loop-token : goal.decreases-loop-token
decreases-loop-token l = length (lexed l.lexer).tokens
