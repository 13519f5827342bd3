use Rattle.std.proofs.Common.{◌≡◌, ap, map, ◌∙◌}
use Rattle.std.specs.FinMap as fin
use Rattle.std.proofs.lemmas.Iterator.{YieldsList-from_take}
use Rattle.std.proofs.lemmas.Iterator.Adapters.{YieldsList-from_skip}
use Rattle.std.proofs.lemmas.Iterator.Consumers.{YieldsList-from_rest, YieldsList-at, YieldsList-end}
use Rattle.dm_table.specs.Contents.{TableContent}
use Rattle.dm_table.proofs.table.Table.rows_from.Goals as goal

pub returns : goal.returns
returns c =
    let here : c.values.result ≡ fin.values c.args.self.now.rows = c.values.ensures.rest ∙ ap (map (λ e. e.1)) (c.in_order.ensures ∙ ap (λ (t : TableContent). fin.entries t.rows) c.self.view_is) in
    c.new.ensures ∙ c.loop-row.invariant
    ∙ (YieldsList-end (YieldsList-at c.into_iter-row-iterator.ensures.into_iter_gives (YieldsList-from_take c.args.count (YieldsList-at c.take-row-items.ensures.source
    (YieldsList-from_skip c.args.place (YieldsList-at c.skip.ensures.source (YieldsList-from_rest (fin.values c.args.self.now.rows) here)) c.skip.ensures.count)) c.take-row-items.ensures.count))
    c.loop-row.yielded c.loop-row.row-iterator c.loop-row.yielded_by c.next.result c.next.new.self c.in-None.is c.next.ensures.steps).0
