-- The defaults of the columns so far have bytes.
use Rattle.std.proofs.Common.{◌≡◌, true, take}
use Rattle.std.specs.List.{list_all}
use Rattle.dm_reread.specs.Parts.{default_has_bytes}
use Rattle.dm_reread.proofs.bytes.column_bytes.Given as goal

abbrev pub invariant-loop-column : goal.invariant-loop-column
invariant-loop-column l = list_all default_has_bytes (take l.column-index l.columns) ≡ true
