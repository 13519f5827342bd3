use Rattle.std.proofs.Common.{◌≡◌, ◌+◌, ◌/◌, refl, arith}
use Rattle.dm_time.specs.Civil.{date_at}
use Rattle.dm_time.proofs.DatesAt.{found_date}
use Rattle.dm_time.proofs.stamps.civil_moment.Goals as goal

pub returns : goal.returns
returns c =
    let same : c.date_after_epoch.result ≡ date_at (719162 + c.args.seconds / 86400) = found_date c.date_after_epoch.result (c.args.seconds / 86400) (omega (arith, c.ranges.seconds)) c.date_after_epoch.ensures.date c.date_after_epoch.ensures.from_1970 c.date_after_epoch.ensures.days in
    rw same refl
