use Rattle.std.proofs.Common.{List, ◌++◌, arith, ap, ◌∙◌}
use Rattle.std.specs.List.{filter_map}
use Rattle.dm_schema.specs.declared.column.Column.{Column}
use Rattle.dm_schema.specs.declared.column.UniqueKey.{UniqueKey}
use Rattle.dm_table.specs.Contents.{Row}
use Rattle.dm_table.specs.Indexing.{told_place}
use Rattle.dm_table.specs.Staging.{rows_behind}
use Rattle.dm_table.proofs.Gathered.{gathers, gathered}
use Rattle.dm_table.proofs.clearing.sharing_keys.Goals as goal

pub loop-key-init : goal.loop-key-init
loop-key-init c = ap (λ (made : List Row). made ++ filter_map (λ key. told_place key c.columns-columns.result.now (rows_behind c.args.rows.now) (rows_behind c.args.index.now) c.args.row.now) c.uniques-key-items.result.now) c.new-keys.ensures.items

pub loop-key-preserved : goal.loop-key-preserved
loop-key-preserved c =
    gathers (λ (key : UniqueKey). told_place key c.columns-columns.result.now (rows_behind c.args.rows.now) (rows_behind c.args.index.now) c.args.row.now) c.loop-key.keys.items c.push_some.new.rows.items c.uniques-key-items.result.now
    c.loop-key.key-index c.key-item.result c.in_ok-told_place.field-0 _ (omega arith) c.key-item.is c.in_ok-told_place.ensures c.in_ok-push_some.ensures c.loop-key.invariant

pub returns : goal.returns
returns c =
    gathered (λ (key : UniqueKey). told_place key c.columns-columns.result.now (rows_behind c.args.rows.now) (rows_behind c.args.index.now) c.args.row.now) c.loop-key.keys.items c.uniques-key-items.result.now c.loop-key.key-index
    c.loop-key-test.false c.loop-key.invariant
    ∙ ap (λ (keys : List UniqueKey). filter_map (λ key. told_place key c.columns-columns.result.now (rows_behind c.args.rows.now) (rows_behind c.args.index.now) c.args.row.now) keys) c.uniques-key-items.ensures.uniques
    ∙ ap (λ (columns : List Column). filter_map (λ key. told_place key columns (rows_behind c.args.rows.now) (rows_behind c.args.index.now) c.args.row.now) c.args.schema.now.uniques) c.columns-columns.ensures.columns
