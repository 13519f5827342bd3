use Rattle.std.proofs.Common.{◌≡◌}
use Rattle.std.specs.FinMap as fin
use Rattle.dm_table.specs.Indexing.{indexed}
use Rattle.dm_table.proofs.indexing.index_of.Given as goal

abbrev pub invariant-loop-place : goal.invariant-loop-place
invariant-loop-place l = indexed l.schema l.place-iterator l.index ≡ indexed l.schema (fin.entries l.rows) fin.empty
