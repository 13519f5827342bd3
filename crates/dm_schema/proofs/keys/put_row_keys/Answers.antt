use Rattle.std.proofs.Common.{◌∙◌, sym, fold, arith}
use Rattle.std.specs.List.{filter_map}
use Rattle.std.proofs.lemmas.List.{at_drop_all}
use Rattle.dm_schema.specs.Keys.{unique_value, with_key}
use Rattle.dm_schema.proofs.KeyLemmas.{one_more}
use Rattle.dm_schema.proofs.keys.put_row_keys.Goals as goal

pub loop-unique-preserved : goal.loop-unique-preserved
loop-unique-preserved c =
    let f = unique_value c.args.schema.now c.args.row.now in
    let keys = c.loop-unique.keys.items in
    let xs = c.uniques-unique-items.result.now in
    rw (c.in_ok-put_unique.ensures)
    (one_more with_key f keys _ xs c.loop-unique.unique-index c.unique-item.result (omega arith) c.unique-item.is c.loop-unique.invariant)

pub returns : goal.returns
returns c =
    let f = unique_value c.args.schema.now c.args.row.now in
    let keys = c.loop-unique.keys.items in
    let xs = c.uniques-unique-items.result.now in
    sym (at_drop_all (λ rest. fold with_key keys (filter_map f rest)) xs c.loop-unique.unique-index (omega arith)) ∙ c.loop-unique.invariant
