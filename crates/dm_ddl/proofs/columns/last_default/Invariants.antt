use Rattle.std.proofs.Common.{◌≡◌, ◌∷◌, [], fold, length, Some, List, Option}
use Rattle.std.specs.Option.{option_map}
use Rattle.dm_syntax.specs.declared.piece.Piece.{Piece}
use Rattle.dm_syntax.specs.declared.role.TheConstants as role
use Rattle.dm_syntax.specs.Pieces.{begins, parts}
use Rattle.dm_ddl.specs.Columns.{last_default}
use Rattle.dm_ddl.proofs.columns.last_default.Given as goal

abbrev pub invariant-loop-part : goal.invariant-loop-part
invariant-loop-part l =
    fold (λ (last : Option (List Piece)) (part : List Piece). Some part) (option_map (λ part. part.now) l.last) (parts (begins (role.DEFAULT ∷ [])) l.rest) ≡ last_default l.item

abbrev pub decreases-loop-part : goal.decreases-loop-part
decreases-loop-part l = length l.rest
