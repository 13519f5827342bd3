use Rattle.std.proofs.Common.{◌∙◌, map}
use Rattle.dm_top.proofs.KeyLemmas.{told_shares, none_there}
use Rattle.dm_top.proofs.keys.share_key.Goals as goal

pub returns : goal.returns
returns c =
    let whole = rw c.deref.ensures.value at c.in_ok-whole.ensures in
    let sorted = rw c.deref-2.ensures.value at c.in_ok-sorted.ensures in
    none_there (λ rows. map (λ row. row.now) rows.items) c.in_ok-sorted.sorted c.is_none.result c.is_none.ensures
    ∙ told_shares c.args.joined.now c.args.key.now (map (λ row. row.now) c.args.rows.now) _ c.in_ok-origins.origins.items c.columns.result.now c.as_slice.result.now _ c.in_ok-origins.ensures c.columns.ensures.columns c.as_slice.ensures whole sorted
