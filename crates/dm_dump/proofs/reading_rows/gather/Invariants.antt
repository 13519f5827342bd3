use Rattle.std.proofs.Common.{◌≡◌, length, fold}
use Rattle.dm_dump.specs.Streams.{units_left, all_contents}
use Rattle.dm_dump.specs.Units.{units}
use Rattle.dm_dump.specs.Outlines.{second_place}
use Rattle.dm_dump.specs.Rows.{with_unit, gathered}
use Rattle.dm_dump.specs.Gatherings.{gathered_in}
use Rattle.dm_dump.proofs.OutlineLemmas.{second_behind}
use Rattle.dm_dump.proofs.reading_rows.gather.Given as goal

abbrev pub invariant-loop-rows : goal.invariant-loop-rows
invariant-loop-rows l = record {
  rows : fold (with_unit l.text l.table l.columns) (gathered_in l.rows) (units (units_left l.units).pieces) ≡ gathered l.text l.table l.columns (units (all_contents l.text).pieces);
  second : second_behind l.second l.created (units (units_left l.units).pieces) ≡ second_place (units (all_contents l.text).pieces);
  ending : (units_left l.units).ending ≡ (all_contents l.text).ending;
}

abbrev pub decreases-loop-rows : goal.decreases-loop-rows
decreases-loop-rows l = length (units (units_left l.units).pieces)
