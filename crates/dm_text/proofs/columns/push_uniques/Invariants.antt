use Rattle.std.proofs.Common.{◌≡◌, ◌++◌, take}
use Rattle.std.specs.List.{flat_map}
use Rattle.dm_text.specs.Columns.{unique_part}
use Rattle.dm_text.proofs.columns.push_uniques.Given as goal

abbrev pub invariant-loop-unique : goal.invariant-loop-unique
invariant-loop-unique l = l.out.items ≡ l.initial.out.items ++ flat_map unique_part (take l.unique-index l.uniques)
