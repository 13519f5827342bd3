use Rattle.std.proofs.Common.{◌≡◌, Ok, Some, slice_get}
use Rattle.dm_fold.specs.Folds.{folded}
use Rattle.dm_fold.proofs.folding.fold.Given as goal

abbrev pub invariant-loop-before : goal.invariant-loop-before
invariant-loop-before l = folded l.inputs.files l.history l.before ≡ Ok l.table
