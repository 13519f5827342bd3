use Rattle.std.proofs.Common.{arith, ◌∙◌}
use Rattle.dm_table.specs.Staging.{rows_behind}
use Rattle.dm_table.proofs.Room.{removed_one}
use Rattle.dm_table.proofs.clearing.remove_rows.Goals as goal

pub loop-key-preserved : goal.loop-key-preserved
loop-key-preserved c = record {
  behind = removed_one c.args.keys.now c.loop-key.key-index c.key-item.result (rows_behind c.loop-key.rows) (rows_behind c.remove_row.new.rows) _ (omega arith) c.key-item.is c.in_ok-remove_row.ensures.behind c.loop-key.invariant.behind;
  told = λ told. c.in_ok-remove_row.ensures.told (c.loop-key.invariant.told told);
  rows = c.in_ok-remove_row.ensures.rows ∙ c.loop-key.invariant.rows;
  index = c.in_ok-remove_row.ensures.index ∙ c.loop-key.invariant.index;
}
