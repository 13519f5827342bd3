-- The lengths of the columns so far have 16 bits.
use Rattle.std.proofs.Common.{◌≡◌, true, take}
use Rattle.std.specs.List.{list_all}
use Rattle.dm_write.specs.Lengths.{has_length}
use Rattle.dm_write.proofs.dumps.column_lengths.Given as goal

abbrev pub invariant-loop-column : goal.invariant-loop-column
invariant-loop-column l = list_all (λ c. has_length c.kind) (take l.column-index l.columns) ≡ true
