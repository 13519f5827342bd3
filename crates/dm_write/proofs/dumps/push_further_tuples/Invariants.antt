use Rattle.std.proofs.Common.{◌≡◌, ◌∷◌, ◌++◌, take}
use Rattle.std.specs.List.{flat_map}
use Rattle.dm_text.specs.Values.{tuple_text}
use Rattle.dm_write.proofs.dumps.push_further_tuples.Given as goal

abbrev pub invariant-loop-row : goal.invariant-loop-row
invariant-loop-row l = l.out.items ≡ l.initial.out.items ++ flat_map (λ row. 44 ∷ tuple_text l.columns row) (take l.row-index l.rows)
