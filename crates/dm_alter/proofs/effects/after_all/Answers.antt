use Rattle.std.proofs.Common.{arith}
use Rattle.std.proofs.lemmas.Result.{err_from_is_err_and}
use Rattle.dm_alter.specs.Making.{making_of}
use Rattle.dm_alter.proofs.Steps.{goes_on, fails, ends, at_place}
use Rattle.dm_alter.proofs.effects.after_all.Goals as goal

pub after_one-requires : goal.after_one-requires
after_one-requires g c = at_place c.args.changes.now c.loop-number.number c.index-changes-number.result c.requires (omega arith) c.index-changes-number.is

pub returns-in_err-after-2 : goal.returns-in_err-after-2
returns-in_err-after-2 g c =
    let p = err_from_is_err_and c.from_residual-in_err-after-2.result c.from_residual-in_err-after-2.ensures.1 in
    rw (p.1, p.2)
    (fails (making_of c.args.bound) (g.R.DefaultReading.reads c.args.reading.now) c.args.changes.now c.split_at.result.0.now c.loop-number.number c.index-changes-number.result c.loop-number.after c.in_err-after-2.field-0.0 _ (omega arith)
    c.index-changes-number.is c.split_at.ensures.front c.in_err-after-2.ensures c.loop-number.invariant)

pub loop-number-preserved : goal.loop-number-preserved
loop-number-preserved g c =
    goes_on (making_of c.args.bound) (g.R.DefaultReading.reads c.args.reading.now) c.args.changes.now c.split_at.result.0.now c.loop-number.number c.index-changes-number.result c.loop-number.after c.in_ok-after-2.after _ (omega arith)
    c.index-changes-number.is c.split_at.ensures.front c.in_ok-after-2.ensures c.loop-number.invariant

pub returns : goal.returns
returns g c = ends (making_of c.args.bound) (g.R.DefaultReading.reads c.args.reading.now) c.args.changes.now c.loop-number.number c.loop-number.after _ (omega arith) c.loop-number.invariant
