use Rattle.std.proofs.Common.{◌≡◌, ◌++◌, drop}
use Rattle.std.specs.List.{filter_map}
use Rattle.dm_table.specs.Indexing.{some_entry}
use Rattle.dm_table.proofs.indexing.entries_of.Given as goal

abbrev pub invariant-loop-key : goal.invariant-loop-key
invariant-loop-key l = l.entries.items ++ filter_map (λ key. some_entry key l.columns l.row) (drop l.key-index l.key-items) ≡ filter_map (λ key. some_entry key l.columns l.row) l.key-items
