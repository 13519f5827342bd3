use Rattle.std.proofs.Common.{◌≡◌, ◌∷◌, ◌++◌, take}
use Rattle.std.specs.List.{flat_map}
use Rattle.dm_text.specs.Names.{quoted}
use Rattle.dm_text.proofs.names.push_further_names.Given as goal

abbrev pub invariant-loop-name : goal.invariant-loop-name
invariant-loop-name l = l.out.items ≡ l.initial.out.items ++ (flat_map (λ n. 44 ∷ quoted n) (take l.name-index l.names))
