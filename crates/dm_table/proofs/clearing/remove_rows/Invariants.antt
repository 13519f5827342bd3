use Rattle.std.proofs.Common.{◌≡◌, drop}
use Rattle.dm_table.specs.Indexing.{Tells}
use Rattle.dm_table.specs.Staging.{rows_behind, removed_all}
use Rattle.dm_table.proofs.clearing.remove_rows.Given as goal

abbrev pub invariant-loop-key : goal.invariant-loop-key
invariant-loop-key l = record {
  behind : removed_all (drop l.key-index l.keys) (rows_behind l.rows) ≡ removed_all l.keys (rows_behind l.initial.rows);
  told : Tells l.schema (rows_behind l.initial.rows) (rows_behind l.initial.index) → Tells l.schema (rows_behind l.rows) (rows_behind l.index);
  rows : l.rows.base ≡ l.initial.rows.base;
  index : l.index.base ≡ l.initial.index.base;
}
