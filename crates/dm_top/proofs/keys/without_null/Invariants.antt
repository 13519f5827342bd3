use Rattle.std.proofs.Common.{◌≡◌, ◌++◌, drop, map}
use Rattle.dm_top.specs.Merge.{without_null}
use Rattle.dm_top.proofs.keys.without_null.Given as goal

-- the rows so far with those to come are all that have no NULL
abbrev pub invariant-loop-row : goal.invariant-loop-row
invariant-loop-row l = map (λ row. row.now) l.whole.items ++ without_null l.origins (map (λ row. row.now) (drop l.row-index l.rows)) ≡ without_null l.origins (map (λ row. row.now) l.rows)
