use Rattle.std.proofs.Common.{◌≡◌}
use Rattle.dm_gen.specs.Steps.{dumped_rows}
use Rattle.dm_gen.proofs.walker.dumped_rows.Given as goal

abbrev pub invariant-loop-number : goal.invariant-loop-number
invariant-loop-number l = l.rows.items ≡ dumped_rows l.source l.number
