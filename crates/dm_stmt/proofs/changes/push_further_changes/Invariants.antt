use Rattle.std.proofs.Common.{◌≡◌, ◌++◌, take}
use Rattle.std.specs.Prelude.{codes}
use Rattle.std.specs.List.{flat_map}
use Rattle.dm_stmt.specs.Texts.{behind, change_text}
use Rattle.dm_stmt.proofs.changes.push_further_changes.Given as goal

abbrev pub invariant-loop-change : goal.invariant-loop-change
invariant-loop-change l = l.out.items ≡ l.initial.out.items ++ flat_map (λ c. behind (codes ", ") (change_text c)) (take l.change-index l.changes)
