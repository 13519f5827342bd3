use Rattle.std.proofs.Common.{◌≡◌, ◌≤◌, length, drop, All, IfSome}
use Rattle.dm_top.specs.Reading.{named_of, files_of, with_front}
use Rattle.dm_top.proofs.files.read_files.Given as goal

-- the files so far and those to come are all; nothing of the shelf falls or changes but its counts
abbrev pub invariant-loop-name : goal.invariant-loop-name
invariant-loop-name g l =
    let shelf = g.F.Shelf in
    record {
      told : IfSome (shelf.files l.fn.shelf) (λ files. with_front (named_of l.read.items) (files_of files l.room (drop l.name-index l.names)) ≡ files_of files l.most l.names);
      room : l.room ≤ l.most;
      sizes : All (λ f. length f.bytes.items ≤ l.most) l.read.items;
      count : length l.read.items ≡ l.name-index;
      files : shelf.files l.shelf ≡ shelf.files l.fn.shelf;
      faults : shelf.faults l.fn.shelf ≤ shelf.faults l.shelf;
      misses : shelf.misses l.fn.shelf ≤ shelf.misses l.shelf;
    }
