use Rattle.std.proofs.Common.{◌≡◌, length}
use Rattle.std.specs.Vec.Iter.{into_iter_items, into_iter_len}
use Rattle.dm_table.specs.Indexing.{all_noted}
use Rattle.dm_table.proofs.indexing.note_all.Given as goal

abbrev pub invariant-loop-entry : goal.invariant-loop-entry
invariant-loop-entry l = record {
  noted : all_noted l.place (into_iter_items l.entry-iterator) (l.index) ≡ all_noted l.place l.fn.entries.items (l.initial.index);
  left : into_iter_len l.entry-iterator ≡ length (into_iter_items l.entry-iterator);
}
