use Rattle.std.proofs.Common.{◌≡◌, length}
use Rattle.dm_dump.specs.Streams.{units_left}
use Rattle.dm_dump.specs.Units.{units}
use Rattle.dm_dump.proofs.UnitLemmas.{units_from}
use Rattle.dm_dump.proofs.unit.Units.next_unit.Given as goal

abbrev pub invariant-loop-self : goal.invariant-loop-self
invariant-loop-self l = record {
  gathered : units_from l.unit.items (units_left l.self).pieces ≡ units (units_left l.fn.self).pieces;
  ending : (units_left l.self).ending ≡ (units_left l.fn.self).ending;
  text : l.self.source.text.now ≡ l.fn.self.source.text.now;
}

abbrev pub decreases-loop-self : goal.decreases-loop-self
decreases-loop-self l = length (units_left l.self).pieces
