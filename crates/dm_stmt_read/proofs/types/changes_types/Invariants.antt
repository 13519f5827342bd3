use Rattle.std.proofs.Common.{◌≡◌, true, take}
use Rattle.std.specs.List.{list_all}
use Rattle.dm_stmt_read.specs.Reading.{is_typed_change}
use Rattle.dm_stmt_read.proofs.types.changes_types.Given as goal

abbrev pub invariant-loop-change : goal.invariant-loop-change
invariant-loop-change l = list_all is_typed_change (take l.change-index l.changes) ≡ true
