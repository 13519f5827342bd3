use Rattle.std.proofs.Common.{◌≡◌, ◌++◌, take}
use Rattle.std.specs.List.{flat_map}
use Rattle.dm_report.specs.Texts.{unique_line}
use Rattle.dm_report.proofs.text.push_uniques.Given as goal

abbrev pub invariant-loop-unique : goal.invariant-loop-unique
invariant-loop-unique l = l.out.items ≡ l.initial.out.items ++ flat_map unique_line (take l.unique-index l.uniques)
