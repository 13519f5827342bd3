use Rattle.std.proofs.Common.{◌∙◌, ap, Option}
use Rattle.dm_dump.specs.declared.fault.Fault.{Fault}
use Rattle.dm_dump.specs.Gatherings.{gathered_in}
use Rattle.dm_dump.specs.Outlines.{least}
use Rattle.dm_dump.specs.Streams.{units_left, all_contents}
use Rattle.dm_dump.proofs.OutlineLemmas.{ending_found}
use Rattle.dm_dump.proofs.DumpLemmas.{rows_end}
use Rattle.dm_dump.proofs.reading_rows.gather.Goals as goal

pub ending-requires : goal.ending-requires
ending-requires c = let none = rw c.if-branch.false at c.in_ok-next_unit.ensures.units in none.1

pub returns-clause-rows : goal.returns-clause-rows
returns-clause-rows c =
    let none = rw c.if-branch.false at c.in_ok-next_unit.ensures.units in
    rows_end c.args.text.now c.args.table.now c.args.columns.now (gathered_in c.loop-rows.rows) (units_left c.loop-rows.units) _ none.0 c.loop-rows.invariant.rows

pub returns-clause-ending : goal.returns-clause-ending
returns-clause-ending c =
    let none = rw c.if-branch.false at c.in_ok-next_unit.ensures.units in
    ending_found c.loop-rows.second c.loop-rows.created (units_left c.loop-rows.units) (all_contents c.args.text.now) c.ending.result c.least.result none.0 c.loop-rows.invariant.second
    (c.ending.ensures ∙ c.in_ok-next_unit.ensures.ending ∙ c.loop-rows.invariant.ending) (c.least.ensures ∙ ap (λ (f : Option Fault). least f c.ending.result) c.second_create.ensures)
