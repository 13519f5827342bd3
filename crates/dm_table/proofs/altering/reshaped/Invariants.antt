use Rattle.std.proofs.Common.{map}
use Rattle.dm_table.specs.Alterations.{reshaped, reshaped_row}
use Rattle.dm_table.proofs.Entries.{Puts}
use Rattle.dm_table.proofs.altering.reshaped.Given as goal

abbrev pub invariant-loop-key : goal.invariant-loop-key
invariant-loop-key l = Puts l.made (map (λ e. (e.0, reshaped_row l.before l.after e.1)) l.key-iterator) (reshaped l.before l.after l.rows)
