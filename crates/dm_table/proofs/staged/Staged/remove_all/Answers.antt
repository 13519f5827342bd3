use Rattle.std.proofs.Common.{arith, ◌∙◌}
use Rattle.dm_table.specs.Staging.{rows_behind}
use Rattle.dm_table.proofs.Room.{removed_one}
use Rattle.dm_table.proofs.staged.Staged.remove_all.Goals as goal

pub loop-key-preserved : goal.loop-key-preserved
loop-key-preserved c = record {
  behind = removed_one c.args.keys.now c.loop-key.key-index c.key-item.result (rows_behind c.loop-key.self) (rows_behind c.remove.new.self) _ (omega arith) c.key-item.is c.in_ok-remove.ensures.behind c.loop-key.invariant.behind;
  base = c.in_ok-remove.ensures.base ∙ c.loop-key.invariant.base;
}
