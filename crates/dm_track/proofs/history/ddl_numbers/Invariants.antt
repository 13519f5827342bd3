use Rattle.std.proofs.Common.{◌≡◌, ◌+◌, ◌++◌, drop}
use Rattle.dm_track.specs.Histories.{ddl_numbers}
use Rattle.dm_track.proofs.history.ddl_numbers.Given as goal

abbrev pub invariant-loop-item : goal.invariant-loop-item
invariant-loop-item l = record {
  numbers : l.numbers.items ++ ddl_numbers l.number (drop l.item-index l.items) ≡ ddl_numbers 1 l.items;
  number : l.number ≡ l.item-index + 1;
}
