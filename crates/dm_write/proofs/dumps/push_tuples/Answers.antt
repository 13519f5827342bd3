use Rattle.std.proofs.Common.{arith}
use Rattle.std.proofs.lemmas.Grind.{common_steps}
use Rattle.dm_text.specs.Values.{tuple_text}
use Rattle.dm_text.proofs.Commas.{with_commas-map}
use Rattle.dm_write.proofs.dumps.push_tuples.Goals as goal

pub returns-in_ok-push_tuple-in-len1-up : goal.returns-in_ok-push_tuple-in-len1-up
returns-in_ok-push_tuple-in-len1-up c =
    let joined = with_commas-map (tuple_text c.args.columns.now) c.args.rows.now c.first-item.result c.in-len1-up.len_at_least c.first-item.is in
    grind (arith, common_steps, joined)
