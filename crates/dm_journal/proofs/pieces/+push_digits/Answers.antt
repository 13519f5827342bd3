use Rattle.std.proofs.Common.{append_assoc}
use Rattle.dm_time.proofs.Written.{one_digit_more}
use Rattle.dm_journal.proofs.pieces.+push_digits.Goals as goal

pub returns-in_ok-push : goal.returns-in_ok-push
returns-in_ok-push t c =
    let more = one_digit_more c.args.count c.args.number c.if-count-gt0.true in
    rw (more, c.in_ok-push.ensures.items, c.in_ok-push_digits.ensures, append_assoc)
