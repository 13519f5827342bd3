use Rattle.std.proofs.Common.{◌≡◌, is_some}
use Rattle.std.specs.FinMap as fin
use Rattle.dm_table.specs.Alterations.{is_shared}
use Rattle.dm_table.specs.Seeing.{seen_again}
use Rattle.dm_table.proofs.altering.is_shared.Given as goal

abbrev pub invariant-loop-row : goal.invariant-loop-row
invariant-loop-row l = seen_again l.key l.columns (λ values. is_some (fin.get l.seen values)) l.row-iterator ≡ is_shared l.key l.columns l.rows
