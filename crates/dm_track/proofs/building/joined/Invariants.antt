use Rattle.std.proofs.Common.{◌≡◌, length}
use Rattle.std.specs.Vec.Iter.{into_iter_items, into_iter_len}
use Rattle.dm_track.specs.Steps.{all_parts, behind_all}
use Rattle.dm_track.proofs.building.joined.Given as goal

abbrev pub invariant-loop-part : goal.invariant-loop-part
invariant-loop-part l = record {
  all : behind_all l.all.items (all_parts (into_iter_items l.part-iterator)) ≡ all_parts l.fn.parts.items;
  count : into_iter_len l.part-iterator ≡ length (into_iter_items l.part-iterator);
}
