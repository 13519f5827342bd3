use Rattle.std.proofs.Common.{◌≡◌, true, take, rules}
use Rattle.dm_time.specs.Texts.{has_shape}
use Rattle.dm_time.proofs.Shapes.{moment_shape, moment_text}
use Rattle.dm_time.proofs.reading.moment_of_text.Goals as goal

pub part-requires-clause-digits : goal.part-requires-clause-digits
part-requires-clause-digits c =
    let shaped : has_shape moment_shape (take 19 c.args.text.now) ≡ true = search rules in
    (moment_text c.args.text.now shaped).hour

pub part-requires-2-clause-digits : goal.part-requires-2-clause-digits
part-requires-2-clause-digits c =
    let shaped : has_shape moment_shape (take 19 c.args.text.now) ≡ true = search rules in
    (moment_text c.args.text.now shaped).minute

pub part-requires-3-clause-digits : goal.part-requires-3-clause-digits
part-requires-3-clause-digits c =
    let shaped : has_shape moment_shape (take 19 c.args.text.now) ≡ true = search rules in
    (moment_text c.args.text.now shaped).second
