use Rattle.std.proofs.Common.{◌≡◌, ◌++◌, drop}
use Rattle.dm_top.specs.Merge.{all_rows}
use Rattle.dm_top.specs.Sources.{said_of}
use Rattle.dm_top.proofs.merge.rows_of.Given as goal

-- the rows so far with those to come are all rows
abbrev pub invariant-loop-source : goal.invariant-loop-source
invariant-loop-source l = l.rows.items ++ all_rows l.joined (said_of (drop l.source-index l.sources)) ≡ all_rows l.joined (said_of l.sources)
