use Rattle.std.proofs.Common.{◌≡◌, pos, unsigned_abs, FitsSigned, w16, arith}
use Rattle.std.proofs.lemmas.Int.{ints, to_z-of_z}
use Rattle.jiff_core.specs.Date.{epoch_day}
use Rattle.dm_time.proofs.Epoch.{its_days, no_earlier, natural_year}
use Rattle.dm_time.proofs.days.date_after_epoch.Goals as goal

pub overflow_cast-result : goal.overflow_cast-result
overflow_cast-result c =
    let d = c.from_days_since_min-date.result in
    let counted : epoch_day d ≡ pos c.args.days = omega (arith, ints, c.from_days_since_min-date.ensures) in
    let from = no_earlier d c.args.days counted in
    let fits : FitsSigned w16 d.year = omega (arith, ints, d.year_in) in
    rw (to_z-of_z w16 d.year fits) (omega (arith, ints, from), omega (arith, ints, from, d.year_in))

pub returns-clause-days : goal.returns-clause-days
returns-clause-days c =
    let d = c.from_days_since_min-date.result in
    let counted : epoch_day d ≡ pos c.args.days = omega (arith, ints, c.from_days_since_min-date.ensures) in
    let from = no_earlier d c.args.days counted in
    let fits : FitsSigned w16 d.year = omega (arith, ints, d.year_in) in
    rw (to_z-of_z w16 d.year fits) (its_days d (unsigned_abs d.year) c.args.days (natural_year d.year from) (omega (arith, ints, from, natural_year d.year from)) counted)

pub returns-clause-from_1970 : goal.returns-clause-from_1970
returns-clause-from_1970 c =
    let d = c.from_days_since_min-date.result in
    let counted : epoch_day d ≡ pos c.args.days = omega (arith, ints, c.from_days_since_min-date.ensures) in
    let from = no_earlier d c.args.days counted in
    let fits : FitsSigned w16 d.year = omega (arith, ints, d.year_in) in
    rw (to_z-of_z w16 d.year fits) (omega (arith, ints, from, natural_year d.year from))
