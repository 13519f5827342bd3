use Rattle.dm_lex.proofs.ClosingLemmas.{comment_open}
use Rattle.dm_lex.proofs.closing.comment_length.Goals as goal

pub returns-clause-value : goal.returns-clause-value
returns-clause-value c = comment_open _ c.loop-rest.rest.now _ c.in_default.len_below c.loop-rest.invariant.0
