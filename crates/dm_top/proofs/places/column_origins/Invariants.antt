use Rattle.std.proofs.Common.{◌≡◌, take}
use Rattle.dm_top.specs.Places.{column_origins}
use Rattle.dm_top.proofs.places.column_origins.Given as goal

abbrev pub invariant-loop-column : goal.invariant-loop-column
invariant-loop-column l = l.origins.items ≡ column_origins (take l.column-index l.joined) l.columns
