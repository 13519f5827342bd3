use Rattle.std.proofs.Common.{◌≡◌, length}
use Rattle.std.specs.Vec.Iter.{into_iter_items, into_iter_len}
use Rattle.dm_table.specs.Indexing.{all_noted}
use Rattle.dm_table.specs.Staging.{rows_behind}
use Rattle.dm_table.proofs.staged.Staged.insert_all.Given as goal

abbrev pub invariant-loop-key : goal.invariant-loop-key
invariant-loop-key l = record {
  noted : all_noted l.place (into_iter_items l.key-iterator) (rows_behind l.self) ≡ all_noted l.place l.fn.keys.items (rows_behind l.initial.self);
  base : l.self.base ≡ l.initial.self.base;
  left : into_iter_len l.key-iterator ≡ length (into_iter_items l.key-iterator);
}
