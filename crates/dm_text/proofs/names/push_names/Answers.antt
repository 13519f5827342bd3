use Rattle.std.proofs.Common.{arith}
use Rattle.std.proofs.lemmas.Grind.{common_steps}
use Rattle.dm_text.specs.Names.{quoted}
use Rattle.dm_text.proofs.Commas.{with_commas-map}
use Rattle.dm_text.proofs.names.push_names.Goals as goal

pub returns-in_ok-push_name-in-len1-up : goal.returns-in_ok-push_name-in-len1-up
returns-in_ok-push_name-in-len1-up c =
    let joined = with_commas-map quoted c.args.names.now c.first-item.result c.in-len1-up.len_at_least c.first-item.is in
    grind (arith, common_steps, joined)
