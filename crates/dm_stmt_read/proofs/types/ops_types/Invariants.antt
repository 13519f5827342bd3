use Rattle.std.proofs.Common.{◌≡◌, true, take}
use Rattle.std.specs.List.{list_all}
use Rattle.dm_stmt_read.specs.Reading.{is_typed_op}
use Rattle.dm_stmt_read.proofs.types.ops_types.Given as goal

abbrev pub invariant-loop-op : goal.invariant-loop-op
invariant-loop-op l = list_all is_typed_op (take l.op-index l.ops) ≡ true
