use Rattle.std.proofs.Common.{◌≡◌, ◌++◌, map, length}
use Rattle.std.specs.List.{zip}
use Rattle.std.specs.Vec.Iter.{into_iter_items, into_iter_len}
use Rattle.dm_track.specs.Steps.{finished}
use Rattle.dm_track.proofs.source.all_finished.Given as goal

abbrev pub invariant-loop-head : goal.invariant-loop-head
invariant-loop-head l = record {
  made : l.histories.items ++ map (λ p. finished (map (λ f. f.name) l.files) p.0 p.1) (zip (into_iter_items l.head-iterator) (into_iter_items l.left))
      ≡ map (λ p. finished (map (λ f. f.name) l.files) p.0 p.1) (zip l.fn.heads.items l.fn.tracks.items);
  heads : into_iter_len l.head-iterator ≡ length (into_iter_items l.head-iterator);
  tracks : into_iter_len l.left ≡ length (into_iter_items l.left);
}
