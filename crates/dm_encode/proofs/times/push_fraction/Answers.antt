use Rattle.std.proofs.lemmas.Result.{on_ok_weaker}
use Rattle.dm_encode.proofs.Shapes.{fraction_made}
use Rattle.dm_encode.proofs.times.push_fraction.Goals as goal

pub returns : goal.returns
returns c = on_ok_weaker c.push_be.result (λ made. fraction_made c.args.digits c.args.micros c.fraction_width.result c.unit_of.result c.from.result _ _ c.fraction_width.ensures c.unit_of.ensures.unit c.from.ensures made) c.push_be.ensures
