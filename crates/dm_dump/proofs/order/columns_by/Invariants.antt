use Rattle.std.proofs.Common.{◌≡◌, ◌++◌, drop}
use Rattle.dm_dump.specs.Orders.{columns_by}
use Rattle.dm_dump.proofs.order.columns_by.Given as goal

abbrev pub invariant-loop-name : goal.invariant-loop-name
invariant-loop-name l = l.made.items ++ columns_by l.columns (drop l.name-index l.order) ≡ columns_by l.columns l.order
