use Rattle.std.proofs.Common.{◌≡◌, drop}
use Rattle.dm_table.specs.Staging.{rows_behind, removed_all}
use Rattle.dm_table.proofs.staged.Staged.remove_all.Given as goal

abbrev pub invariant-loop-key : goal.invariant-loop-key
invariant-loop-key l = record {
  behind : removed_all (drop l.key-index l.keys) (rows_behind l.self) ≡ removed_all l.keys (rows_behind l.initial.self);
  base : l.self.base ≡ l.initial.self.base;
}
