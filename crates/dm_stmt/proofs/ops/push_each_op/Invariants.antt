use Rattle.std.proofs.Common.{◌≡◌, ◌++◌, take}
use Rattle.std.specs.List.{flat_map}
use Rattle.dm_stmt.specs.Texts.{op_text}
use Rattle.dm_stmt.proofs.ops.push_each_op.Given as goal

abbrev pub invariant-loop-op : goal.invariant-loop-op
invariant-loop-op l = l.out.items ≡ l.initial.out.items ++ flat_map (op_text l.table l.schema) (take l.op-index l.ops)
