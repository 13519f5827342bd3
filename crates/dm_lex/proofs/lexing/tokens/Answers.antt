use Rattle.dm_lex.specs.Tokens.{lexed}
use Rattle.dm_lex.proofs.TokenLemmas.{all_given, fault_found}
use Rattle.dm_lex.proofs.lexing.tokens.Goals as goal

pub returns-in-Ok-None : goal.returns-in-Ok-None
returns-in-Ok-None c =
    rw c.new.ensures
    (all_given c.in-Ok-None.field-0 c.loop-token.made.items c.loop-token.lexer c.next_token.new.self c.args.text.now c.in-Ok-None.field-0-is c.in-Ok-None.ensures.gives c.loop-token.invariant.0)

pub returns-in-Err : goal.returns-in-Err
returns-in-Err c = fault_found c.loop-token.made.items (lexed c.loop-token.lexer) c.args.text.now c.in-Err.fault c.in-Err.ensures.gives.0 c.loop-token.invariant.0
