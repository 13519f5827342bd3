use Rattle.std.proofs.lemmas.Result.{on_ok_weaker}
use Rattle.dm_meta.proofs.Tokens.{in_turn}
use Rattle.dm_meta.proofs.checkpoint.put_checkpoint.Goals as goal

pub returns-clause-tokens : goal.returns-clause-tokens
returns-clause-tokens c =
    on_ok_weaker c.end_object.result (in_turn _ _ _ _ _ _ _ _ _ _ _ c.in_ok-begin_object.ensures.ok c.in_ok-put_number.ensures.tokens c.in_ok-put_number-2.ensures.tokens c.in_ok-put_number-3.ensures.tokens) c.end_object.ensures.ok
