use Rattle.std.proofs.Common.{◌≡◌, ◌++◌, drop}
use Rattle.dm_syntax.specs.Names.{all_folded_with}
use Rattle.dm_syntax.proofs.names.all_folded_with.Given as goal

abbrev pub invariant-loop-piece : goal.invariant-loop-piece
invariant-loop-piece l = l.names.items ++ all_folded_with l.text l.role (drop l.piece-index l.pieces) ≡ all_folded_with l.text l.role l.pieces
