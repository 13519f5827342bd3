use Rattle.std.proofs.Common.{◌≡◌, length}
use Rattle.dm_join.specs.Groups.{columns_joined, with_front}
use Rattle.dm_join.proofs.GroupLemmas.{IsOrdered}
use Rattle.dm_join.proofs.groups.joined_columns.Given as goal

abbrev pub invariant-loop-first : goal.invariant-loop-first
invariant-loop-first l = record {
  ordered : IsOrdered l.rest;
  so_far : with_front l.joined.items (columns_joined l.schemas l.rest) ≡ columns_joined l.schemas l.fn.columns;
}

abbrev pub decreases-loop-first : goal.decreases-loop-first
decreases-loop-first l = length l.rest
