use Rattle.std.proofs.Common.{List, sym, ap, ◌∙◌}
use Rattle.dm_table.specs.Contents.{Row}
use Rattle.dm_table.specs.Indexing.{indexed}
use Rattle.dm_table.proofs.Indexed.{indexed_tells}
use Rattle.dm_table.proofs.indexing.index_of.Goals as goal

pub returns : goal.returns
returns c = λ are.
    indexed_tells c.args.schema.now c.args.rows.now c.uniques.ensures.formed are c.loop-place.index (sym (ap (λ (es : List (Row × Row)). indexed c.args.schema.now es c.loop-place.index) c.in-None.ensures.steps.0) ∙ c.loop-place.invariant)
