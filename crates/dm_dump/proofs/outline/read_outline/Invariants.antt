use Rattle.std.proofs.Common.{◌≡◌, length, is_some}
use Rattle.std.specs.Option.{option_or}
use Rattle.dm_dump.specs.Streams.{units_left, all_contents}
use Rattle.dm_dump.specs.Units.{units}
use Rattle.dm_dump.specs.Outlines.{create_span, second_place, insert_place, insert_ends}
use Rattle.dm_dump.proofs.OutlineLemmas.{second_behind, ends_behind}
use Rattle.dm_dump.proofs.outline.read_outline.Given as goal

abbrev pub invariant-loop-unit : goal.invariant-loop-unit
invariant-loop-unit l = record {
  create : option_or l.create (create_span l.text (units (units_left l.units).pieces)) ≡ create_span l.text (units (all_contents l.text).pieces);
  second : second_behind l.second (is_some l.create) (units (units_left l.units).pieces) ≡ second_place (units (all_contents l.text).pieces);
  insert : option_or l.insert (insert_place (units (units_left l.units).pieces)) ≡ insert_place (units (all_contents l.text).pieces);
  ended : ends_behind l.ended l.insert (units (units_left l.units).pieces) ≡ insert_ends (units (all_contents l.text).pieces);
  ending : (units_left l.units).ending ≡ (all_contents l.text).ending;
  text : l.units.source.text.now ≡ l.text;
}

abbrev pub decreases-loop-unit : goal.decreases-loop-unit
decreases-loop-unit l = length (units (units_left l.units).pieces)
