use Rattle.std.proofs.Common.{List, ◌++◌, arith, ap, ◌∙◌}
use Rattle.std.specs.List.{filter_map}
use Rattle.dm_schema.specs.declared.column.Column.{Column}
use Rattle.dm_schema.specs.declared.column.UniqueKey.{UniqueKey}
use Rattle.dm_table.specs.Contents.{Row}
use Rattle.dm_table.specs.Indexing.{some_entry}
use Rattle.dm_table.proofs.Gathered.{gathers, gathered}
use Rattle.dm_table.proofs.indexing.entries_of.Goals as goal

pub loop-key-init : goal.loop-key-init
loop-key-init c = ap (λ (made : List Row). made ++ filter_map (λ key. some_entry key c.columns-columns.result.now c.args.row.now) c.uniques-key-items.result.now) c.new-entries.ensures.items

pub loop-key-preserved : goal.loop-key-preserved
loop-key-preserved c =
    gathers (λ (key : UniqueKey). some_entry key c.columns-columns.result.now c.args.row.now) c.loop-key.entries.items c.push_some.new.rows.items c.uniques-key-items.result.now c.loop-key.key-index c.key-item.result c.in_ok-entry_of.field-0 _
    (omega arith) c.key-item.is c.in_ok-entry_of.ensures c.in_ok-push_some.ensures c.loop-key.invariant

pub returns-clause-entries : goal.returns-clause-entries
returns-clause-entries c =
    gathered (λ (key : UniqueKey). some_entry key c.columns-columns.result.now c.args.row.now) c.loop-key.entries.items c.uniques-key-items.result.now c.loop-key.key-index c.loop-key-test.false c.loop-key.invariant
    ∙ ap (λ (keys : List UniqueKey). filter_map (λ key. some_entry key c.columns-columns.result.now c.args.row.now) keys) c.uniques-key-items.ensures.uniques
    ∙ ap (λ (columns : List Column). filter_map (λ key. some_entry key columns c.args.row.now) c.args.schema.now.uniques) c.columns-columns.ensures.columns
