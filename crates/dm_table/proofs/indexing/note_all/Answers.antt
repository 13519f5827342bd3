use Rattle.std.proofs.Common.{List, length, arith, sym, ap, ◌∙◌}
use Rattle.std.specs.Vec.Iter.{into_iter_items}
use Rattle.std.proofs.lemmas.List.{nil_from_length}
use Rattle.dm_table.specs.Contents.{Row}
use Rattle.dm_table.specs.Indexing.{all_noted}
use Rattle.dm_table.proofs.Gathered.{notes}
use Rattle.dm_table.proofs.indexing.note_all.Goals as goal

pub loop-entry-preserved : goal.loop-entry-preserved
loop-entry-preserved c =
    let short = ap length c.in-Some.ensures.steps.0 in
    let gone = c.in-Some.ensures.steps.1 in
    let was = c.loop-entry.invariant.left in
    record {
      noted = notes c.args.place.now c.in-Some.entry (into_iter_items c.loop-entry.entry-iterator) (into_iter_items c.next.new.self) c.loop-entry.index c.insert.new.self _ c.in_ok-copy.field-0 c.in-Some.ensures.steps.0 c.in_ok-copy.ensures c.in_ok-insert.ensures.put c.loop-entry.invariant.noted;
      left = omega arith;
    }

pub returns : goal.returns
returns c =
    sym (ap (λ (es : List Row). all_noted c.args.place.now es c.loop-entry.index) (nil_from_length (into_iter_items c.loop-entry.entry-iterator) (sym c.loop-entry.invariant.left ∙ c.in-None.ensures.steps.0))) ∙ c.loop-entry.invariant.noted
