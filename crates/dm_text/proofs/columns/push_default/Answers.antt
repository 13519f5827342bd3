use Rattle.std.proofs.lemmas.Result.{on_ok_weaker}
use Rattle.dm_text.proofs.Joins.{now_joined}
use Rattle.dm_text.proofs.columns.push_default.Goals as goal

pub returns-in_ok-extend_from_slice-in-Now : goal.returns-in_ok-extend_from_slice-in-Now
returns-in_ok-extend_from_slice-in-Now c =
    on_ok_weaker c.push_fraction.result (now_joined c.args.kind c.args.rule.now c.fraction_digits.result c.args.out.now.items _ _ c.in-Now.is c.fraction_digits.ensures c.in_ok-extend_from_slice-in-Now.ensures.items) c.push_fraction.ensures
