use Rattle.std.proofs.Common.{List, length, arith, sym, ap, ◌∙◌}
use Rattle.std.specs.Vec.Iter.{into_iter_items}
use Rattle.std.proofs.lemmas.List.{nil_from_length}
use Rattle.dm_table.specs.Contents.{Row}
use Rattle.dm_table.specs.Indexing.{all_noted}
use Rattle.dm_table.specs.Staging.{rows_behind}
use Rattle.dm_table.proofs.Gathered.{notes}
use Rattle.dm_table.proofs.staged.Staged.insert_all.Goals as goal

pub loop-key-preserved : goal.loop-key-preserved
loop-key-preserved c =
    let short = ap length c.in-Some.ensures.steps.0 in
    let gone = c.in-Some.ensures.steps.1 in
    let was = c.loop-key.invariant.left in
    record {
      noted = notes c.args.place.now c.in-Some.key (into_iter_items c.loop-key.key-iterator) (into_iter_items c.next.new.self) (rows_behind c.loop-key.self) (rows_behind c.insert.new.self) _ c.in_ok-copy.field-0 c.in-Some.ensures.steps.0 c.in_ok-copy.ensures c.in_ok-insert.ensures.behind c.loop-key.invariant.noted;
      base = c.in_ok-insert.ensures.base ∙ c.loop-key.invariant.base;
      left = omega arith;
    }

pub returns-clause-behind : goal.returns-clause-behind
returns-clause-behind c =
    sym (ap (λ (es : List Row). all_noted c.args.place.now es (rows_behind c.loop-key.self)) (nil_from_length (into_iter_items c.loop-key.key-iterator) (sym c.loop-key.invariant.left ∙ c.in-None.ensures.steps.0))) ∙ c.loop-key.invariant.noted
