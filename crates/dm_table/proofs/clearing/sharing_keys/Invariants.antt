use Rattle.std.proofs.Common.{◌≡◌, ◌++◌, drop}
use Rattle.std.specs.List.{filter_map}
use Rattle.dm_table.specs.Indexing.{told_place}
use Rattle.dm_table.specs.Staging.{rows_behind}
use Rattle.dm_table.proofs.clearing.sharing_keys.Given as goal

abbrev pub invariant-loop-key : goal.invariant-loop-key
invariant-loop-key l =
    l.keys.items ++ filter_map (λ key. told_place key l.columns (rows_behind l.rows) (rows_behind l.index) l.row) (drop l.key-index l.key-items)
    ≡ filter_map (λ key. told_place key l.columns (rows_behind l.rows) (rows_behind l.index) l.row) l.key-items
