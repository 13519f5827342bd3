-- The rows so far have bytes.
use Rattle.std.proofs.Common.{◌≡◌, true, take}
use Rattle.std.specs.List.{list_all}
use Rattle.dm_reread.specs.Parts.{has_bytes}
use Rattle.dm_reread.proofs.bytes.rows_bytes.Given as goal

abbrev pub invariant-loop-row : goal.invariant-loop-row
invariant-loop-row l = list_all (λ row. list_all has_bytes row) (take l.row-index l.rows) ≡ true
