use Rattle.std.proofs.Common.{◌≡◌, pos, arith}
use Rattle.std.proofs.lemmas.Int.{ints}
use Rattle.dm_time.proofs.Epoch.{found_date}
use Rattle.dm_time.proofs.days.days_since_epoch.Goals as goal

pub overflow_sub-result : goal.overflow_sub-result
overflow_sub-result c =
    let d = c.in-Ok.date in
    let year : d.year ≡ pos c.args.day.year = omega (arith, ints, c.in-Ok.ensures.value) in
    let month : d.month ≡ c.args.day.month = omega (arith, ints, c.in-Ok.ensures.value) in
    let day : d.day ≡ c.args.day.day = omega (arith, ints, c.in-Ok.ensures.value) in
    (found_date c.args.day d c.days_since_min.result year month day c.if-day-lt1970.false c.if-day-gt9999.false c.days_since_min.ensures.value).0

pub returns-in-Ok : goal.returns-in-Ok
returns-in-Ok c =
    let d = c.in-Ok.date in
    let year : d.year ≡ pos c.args.day.year = omega (arith, ints, c.in-Ok.ensures.value) in
    let month : d.month ≡ c.args.day.month = omega (arith, ints, c.in-Ok.ensures.value) in
    let day : d.day ≡ c.args.day.day = omega (arith, ints, c.in-Ok.ensures.value) in
    (found_date c.args.day d c.days_since_min.result year month day c.if-day-lt1970.false c.if-day-gt9999.false c.days_since_min.ensures.value).1
