use Rattle.std.proofs.Common.{◌≡◌, ◌++◌, map, length}
use Rattle.std.specs.Vec.Iter.{into_iter_items, into_iter_len}
use Rattle.dm_track.proofs.source.parts_of.Given as goal

abbrev pub invariant-loop-head : goal.invariant-loop-head
invariant-loop-head l = record {
  heads : l.heads.items ++ map (λ b. b.head) (into_iter_items l.head-iterator) ≡ map (λ b. b.head) l.fn.beginnings.items;
  tracks : l.tracks.items ++ map (λ b. b.track) (into_iter_items l.head-iterator) ≡ map (λ b. b.track) l.fn.beginnings.items;
  count : into_iter_len l.head-iterator ≡ length (into_iter_items l.head-iterator);
}
