use Rattle.std.proofs.Common.{◌∙◌}
use Rattle.dm_top.proofs.KeyLemmas.{told_by_key}
use Rattle.dm_top.proofs.keys.by_primary_key.Goals as goal

pub returns : goal.returns
returns c =
    let sorted = rw c.deref.ensures.value at c.in_ok-sorted.ensures in
    told_by_key c.args.joined.now c.args.rows.now _ c.in_ok-origins.origins.items c.columns.result.now c.as_slice.result.now _ c.in_ok-origins.ensures c.columns.ensures.columns (c.as_slice.ensures ∙ c.primary.ensures) c.in_ok-lent.ensures sorted
