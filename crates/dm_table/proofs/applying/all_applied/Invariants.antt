use Rattle.std.proofs.Common.{◌≡◌, drop}
use Rattle.dm_table.specs.Indexing.{AreIndexed}
use Rattle.dm_table.specs.Operations.{all_applied}
use Rattle.dm_table.specs.Staging.{rows_behind}
use Rattle.dm_table.proofs.applying.all_applied.Given as goal

abbrev pub invariant-loop-op : goal.invariant-loop-op
invariant-loop-op l = record {
  rows : l.rows.base ≡ l.rows-2;
  index : l.index.base ≡ l.index-2;
  applied : all_applied l.schema (drop l.op-index l.ops) (rows_behind l.rows) ≡ all_applied l.schema l.ops l.rows-2;
  indexed : AreIndexed l.schema (rows_behind l.rows) (rows_behind l.index);
}
