use Rattle.std.proofs.Common.{◌≡◌, ◌++◌, drop, map}
use Rattle.dm_top.specs.Rows.{rows_in, rows_from}
use Rattle.dm_top.specs.Merge.{orders_seen}
use Rattle.dm_top.specs.Places.{values_from}
use Rattle.dm_top.specs.Sources.{said_in}
use Rattle.dm_top.proofs.rows.push_rows.Given as goal

-- the rows so far with those to come are all rows
abbrev pub invariant-loop-at : goal.invariant-loop-at
invariant-loop-at l =
    l.rows.items ++ map (values_from l.origins.items) (rows_from l.source.file.bytes.items l.source.dump.schema (orders_seen l.orders) (drop l.at-index l.at-items))
    ≡ l.fn.rows.items ++ map (values_from l.origins.items) (rows_in (said_in l.source))
