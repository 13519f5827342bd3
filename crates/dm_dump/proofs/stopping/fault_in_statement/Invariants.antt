use Rattle.std.proofs.Common.{◌≡◌, length}
use Rattle.dm_lex.specs.Tokens.{lexed}
use Rattle.dm_dump.specs.Reading.{fault_in_statement}
use Rattle.dm_dump.proofs.stopping.fault_in_statement.Given as goal

abbrev pub invariant-loop-token : goal.invariant-loop-token
invariant-loop-token l = record {
  value : fault_in_statement l.text (lexed l.lexer).tokens (lexed l.lexer).fault ≡ fault_in_statement l.text (lexed l.initial.lexer).tokens (lexed l.initial.lexer).fault;
  text : l.lexer.text ≡ l.initial.lexer.text;
}

abbrev pub decreases-loop-token : goal.decreases-loop-token
decreases-loop-token l = length (lexed l.lexer).tokens
