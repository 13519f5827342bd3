use Rattle.std.proofs.Common.{◌∙◌}
use Rattle.std.proofs.lemmas.Result.{on_ok_weaker}
use Rattle.dm_text.proofs.Joins.{parts_joined}
use Rattle.dm_text.proofs.columns.push_parts.Goals as goal

pub returns : goal.returns
returns c = on_ok_weaker c.push_uniques.result (parts_joined c.args.schema.now _ _ _ _ _ _ _ c.columns.ensures.columns (c.as_slice.ensures ∙ c.primary.ensures) c.uniques.ensures.uniques c.in_ok-push_columns.ensures c.in_ok-push_primary.ensures) c.push_uniques.ensures
