-- The values so far have bytes.
use Rattle.std.proofs.Common.{◌≡◌, true, take}
use Rattle.std.specs.List.{list_all}
use Rattle.dm_reread.specs.Parts.{has_bytes}
use Rattle.dm_reread.proofs.bytes.row_bytes.Given as goal

abbrev pub invariant-loop-value : goal.invariant-loop-value
invariant-loop-value l = list_all has_bytes (take l.value-index l.row) ≡ true
