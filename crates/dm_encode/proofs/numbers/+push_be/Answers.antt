use Rattle.std.proofs.Common.{append-nil, refl, arith}
use Rattle.dm_encode.proofs.Digits.{be_last, be_none}
use Rattle.dm_encode.proofs.numbers.+push_be.Goals as goal

pub returns-then-width-eq0 : goal.returns-then-width-eq0
returns-then-width-eq0 t c = rw (c.if-width-eq0.true, be_none c.args.number, append-nil) refl

pub returns : goal.returns
returns t c = be_last c.args.width c.args.number _ _ _ (omega arith) c.in_ok-push_be.ensures c.in_ok-push.ensures.items
