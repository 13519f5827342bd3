use Rattle.std.proofs.Common.{ap, sym, ◌∙◌, ◌++◌, map, append-nil, List}
use Rattle.std.proofs.lemmas.List.{drop_all}
use Rattle.dm_top.specs.Rows.{Row, rows_from}
use Rattle.dm_top.specs.Merge.{orders_seen}
use Rattle.dm_top.specs.Places.{values_from}
use Rattle.dm_top.specs.Sources.{said_in}
use Rattle.dm_top.proofs.KeyLemmas.{all_added}
use Rattle.dm_top.proofs.rows.push_rows.Goals as goal

pub returns : goal.returns
returns c =
    let s = said_in c.args.source.now in
    let rows : List Row = c.loop-at.rows.items in
    all_added c.args.joined.now s c.in_ok-origins.origins.items c.columns.result.now c.columns-2.result.now rows c.args.rows.now.items c.in_ok-origins.ensures c.columns.ensures.columns c.columns-2.ensures.columns
    (sym (ap (λ places. rows ++ map (values_from c.in_ok-origins.origins.items) (rows_from s.text s.dump.schema (orders_seen c.loop-at.orders) places)) (drop_all c.loop-at.at-index c.as_slice-at-items.result.now c.loop-at-test.false) ∙ append-nil rows)
    ∙ c.loop-at.invariant)
