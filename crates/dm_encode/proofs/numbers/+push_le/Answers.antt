use Rattle.std.proofs.Common.{append-nil, refl, arith}
use Rattle.std.proofs.lemmas.Result.{on_ok_weaker}
use Rattle.dm_encode.proofs.Digits.{le_first, le_none}
use Rattle.dm_encode.proofs.numbers.+push_le.Goals as goal

pub returns-then-width-eq0 : goal.returns-then-width-eq0
returns-then-width-eq0 t c = rw (c.if-width-eq0.true, le_none c.args.number, append-nil) refl

pub returns : goal.returns
returns t c = on_ok_weaker c.push_le.result (λ rest. le_first c.args.width c.args.number _ _ _ (omega arith) c.in_ok-push.ensures.items rest) c.push_le.ensures
