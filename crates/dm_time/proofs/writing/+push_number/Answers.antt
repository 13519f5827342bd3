use Rattle.std.proofs.Common.{append_assoc}
use Rattle.dm_time.proofs.Written.{one_digit_more}
use Rattle.dm_time.proofs.writing.+push_number.Goals as goal

pub returns-in_ok-push : goal.returns-in_ok-push
returns-in_ok-push t c =
    let more = one_digit_more c.args.digits c.args.number c.if-digits-gt0.true in
    rw (more, c.in_ok-push.ensures.items, c.in_ok-push_number.ensures, append_assoc)
