use Rattle.dm_lex.proofs.TokenLemmas.{lexeme_ends}
use Rattle.dm_lex.proofs.lexer.lexeme_at.Goals as goal

pub returns-clause-within : goal.returns-clause-within
returns-clause-within c = lexeme_ends _ c.args.text.now c.args.at c.requires c.lexeme_of.ensures
