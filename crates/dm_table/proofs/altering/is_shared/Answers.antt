use Rattle.std.proofs.Common.{ap, map, List, is_some, ◌∙◌}
use Rattle.std.specs.FinMap as fin
use Rattle.dm_table.specs.Contents.{Row}
use Rattle.dm_table.specs.Seeing.{seen_again}
use Rattle.dm_table.proofs.SeenAgain.{seen_begin}
use Rattle.dm_table.proofs.altering.is_shared.Goals as goal

pub loop-row-init : goal.loop-row-init
loop-row-init c =
    ap (λ (rows : List Row). seen_again c.args.key.now c.args.columns.now (λ values. is_some (fin.get c.new-seen.result values)) rows)
    (c.into_iter-row-iterator.ensures.into_iter_gives ∙ c.values-row-items.ensures.rest ∙ ap (map (λ e. e.1)) c.in_order.ensures)
    ∙ seen_begin c.args.key.now c.args.columns.now c.args.rows.now c.new-seen.result c.new-seen.ensures
